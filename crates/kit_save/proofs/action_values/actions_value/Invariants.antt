use Rattle.std.proofs.Common.{◌≡◌, map, take}
use Rattle.serde_json.specs.View.{view}
use Rattle.kit_save.specs.Values.{action_value}
use Rattle.kit_save.proofs.action_values.actions_value.Given as goal

-- the values so far are those of the actions so far
abbrev pub invariant-loop-action : goal.invariant-loop-action
invariant-loop-action l = map view l.items.items ≡ map (action_value l.groups l.federate.vars) (take l.action-index l.actions)
