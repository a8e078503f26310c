use Rattle.std.proofs.Common.{◌≡◌, map, take}
use Rattle.serde_json.specs.View.{view}
use Rattle.kit_save.specs.Values.{federate_value}
use Rattle.kit_save.proofs.federate_values.federates_value.Given as goal

-- the values so far are those of the federates so far
abbrev pub invariant-loop-federate : goal.invariant-loop-federate
invariant-loop-federate l = map view l.items.items ≡ map (federate_value l.groups) (take l.federate-index l.federates)
