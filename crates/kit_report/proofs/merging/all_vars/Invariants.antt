use Rattle.std.proofs.Common.{◌≡◌, map, take}
use Rattle.kit_rules.specs.Merging.{vars_in}
use Rattle.kit_report.proofs.merging.all_vars.Given as goal

abbrev pub invariant-loop-part : goal.invariant-loop-part
invariant-loop-part l = l.vars ≡ map vars_in (take l.part-index l.parts)
