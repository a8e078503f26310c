-- those so far have words
use Rattle.std.proofs.Common.{take}
use Rattle.std.specs.List.{All}
use Rattle.kit_save.specs.Widths.{IsWordAction}
use Rattle.kit_save.proofs.widths.actions_have_words.Given as goal

abbrev pub invariant-loop-action : goal.invariant-loop-action
invariant-loop-action l = All IsWordAction (take l.action-index l.actions)
