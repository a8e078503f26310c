-- what the federates so far become
use Rattle.std.proofs.Common.{◌≡◌, map, take}
use Rattle.kit_regions.specs.Lowered.{lowered_federate}
use Rattle.kit_regions.proofs.lowering.lower_federates.Given as goal

abbrev pub invariant-loop-federate : goal.invariant-loop-federate
invariant-loop-federate l = l.made ≡ map (lowered_federate l.updates) (take l.federate-index l.federates)
