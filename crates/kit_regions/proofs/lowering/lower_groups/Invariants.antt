-- the groups of the updates so far
use Rattle.std.proofs.Common.{◌≡◌, map, take}
use Rattle.kit_regions.specs.Lowered.{lowered_group}
use Rattle.kit_regions.proofs.lowering.lower_groups.Given as goal

abbrev pub invariant-loop-update : goal.invariant-loop-update
invariant-loop-update l = l.made ≡ map (lowered_group l.plan.subscriptions) (take l.update-index l.plan.updates)
