-- those so far have words
use Rattle.std.proofs.Common.{take}
use Rattle.std.specs.List.{All}
use Rattle.kit_save.specs.Widths.{IsWordCond}
use Rattle.kit_save.proofs.widths.conds_have_words.Given as goal

abbrev pub invariant-loop-cond : goal.invariant-loop-cond
invariant-loop-cond l = All IsWordCond (take l.cond-index l.conds)
