use Rattle.std.proofs.Common.{◌≡◌, map, take}
use Rattle.serde_json.specs.View.{view}
use Rattle.kit_save.specs.Values.{group_value}
use Rattle.kit_save.proofs.group_values.groups_value.Given as goal

-- the values so far are those of the groups so far
abbrev pub invariant-loop-group : goal.invariant-loop-group
invariant-loop-group l = map view l.items.items ≡ map (group_value l.federates) (take l.group-index l.groups)
