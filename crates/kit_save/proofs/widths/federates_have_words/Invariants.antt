-- those so far have words
use Rattle.std.proofs.Common.{take}
use Rattle.std.specs.List.{All}
use Rattle.kit_save.specs.Widths.{IsWordFederate}
use Rattle.kit_save.proofs.widths.federates_have_words.Given as goal

abbrev pub invariant-loop-federate : goal.invariant-loop-federate
invariant-loop-federate l = All IsWordFederate (take l.federate-index l.federates)
