-- what is written, and the text of the rest, is the text of all
use Rattle.std.proofs.Common.{◌≡◌, ◌++◌, drop}
use Rattle.kit_rules.specs.Text.{vars_text}
use Rattle.kit_report.proofs.history_text.push_vars.Given as goal

abbrev pub invariant-loop-i : goal.invariant-loop-i
invariant-loop-i l = l.out.items ++ vars_text (drop l.i l.vars) (drop l.i l.values) ≡ l.fn.out.items ++ vars_text l.vars l.values
