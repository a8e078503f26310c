-- those so far have words
use Rattle.std.proofs.Common.{take}
use Rattle.std.specs.List.{All}
use Rattle.kit_save.specs.Widths.{IsWordRule}
use Rattle.kit_save.proofs.widths.rules_have_words.Given as goal

abbrev pub invariant-loop-rule : goal.invariant-loop-rule
invariant-loop-rule l = All IsWordRule (take l.rule-index l.rules)
