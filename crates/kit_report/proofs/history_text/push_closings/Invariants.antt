-- what is written, and the text of the rest, is the text of all
use Rattle.std.proofs.Common.{◌≡◌, ◌++◌, drop}
use Rattle.kit_rules.specs.Text.{closings_text}
use Rattle.kit_report.proofs.history_text.push_closings.Given as goal

abbrev pub invariant-loop-i : goal.invariant-loop-i
invariant-loop-i l = l.out.items ++ closings_text (drop l.i l.federates) (drop l.i l.vars) ≡ l.fn.out.items ++ closings_text l.federates l.vars
