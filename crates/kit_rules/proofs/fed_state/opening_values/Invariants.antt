-- the values so far, and 0 in the rest
use Rattle.std.proofs.Common.{◌≡◌, ◌-◌, ◌++◌, map, take, replicate}
use Rattle.kit_rules.specs.declared.table.Var.{Var}
use Rattle.kit_rules.proofs.fed_state.opening_values.Given as goal

abbrev pub invariant-loop-i : goal.invariant-loop-i
invariant-loop-i l = l.values ≡ map (λ (v : Var). v.value) (take l.i l.vars) ++ replicate (8 - l.i) 0
