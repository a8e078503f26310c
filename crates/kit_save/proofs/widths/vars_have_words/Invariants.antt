-- those so far have words
use Rattle.std.proofs.Common.{take}
use Rattle.std.specs.List.{All}
use Rattle.kit_save.specs.Widths.{IsWordVar}
use Rattle.kit_save.proofs.widths.vars_have_words.Given as goal

abbrev pub invariant-loop-var : goal.invariant-loop-var
invariant-loop-var l = All IsWordVar (take l.var-index l.vars)
