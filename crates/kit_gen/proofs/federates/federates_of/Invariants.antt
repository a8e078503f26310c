use Rattle.std.proofs.Common.{◌≡◌, map}
use Rattle.std.specs.List.{range_with_len}
use Rattle.kit_gen.specs.Generator.{federate_of}
use Rattle.kit_gen.proofs.federates.federates_of.Given as goal

abbrev pub invariant-loop-federate : goal.invariant-loop-federate
invariant-loop-federate l = l.federates ≡ map (federate_of l.seed l.count) (range_with_len 0 l.federate)
