use Rattle.std.proofs.Common.{◌≡◌, map, take}
use Rattle.serde_json.specs.View.{view}
use Rattle.kit_save.specs.Values.{count}
use Rattle.kit_save.proofs.standing_values.variables_value.Given as goal

-- the values so far are those of the variables so far
abbrev pub invariant-loop-value : goal.invariant-loop-value
invariant-loop-value l = map view l.items.items ≡ map count (take l.value-index l.values)
