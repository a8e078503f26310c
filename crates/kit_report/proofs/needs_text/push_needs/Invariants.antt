-- what is written, and the lines of the rest, are the lines of all
use Rattle.std.proofs.Common.{◌≡◌, ◌++◌, drop}
use Rattle.kit_rules.specs.Text.{need_lines}
use Rattle.kit_report.proofs.needs_text.push_needs.Given as goal

abbrev pub invariant-loop-i : goal.invariant-loop-i
invariant-loop-i l = l.out.items ++ need_lines (drop l.i l.federates) (drop l.i l.needs) ≡ l.fn.out.items ++ need_lines l.federates l.needs
