use Rattle.std.proofs.Common.{◌≡◌, map, take}
use Rattle.serde_json.specs.View.{view}
use Rattle.kit_save.specs.Values.{var_value}
use Rattle.kit_save.proofs.variable_values.vars_value.Given as goal

-- the values so far are those of the variables so far
abbrev pub invariant-loop-var : goal.invariant-loop-var
invariant-loop-var l = map view l.items.items ≡ map var_value (take l.var-index l.vars)
