-- all before the place are right
use Rattle.std.proofs.Common.{take}
use Rattle.std.specs.List.{All}
use Rattle.kit_rules.specs.Federation.{IsFederate}
use Rattle.kit_rules.proofs.faults.first_wrong_federate.Given as goal

abbrev pub invariant-loop-k : goal.invariant-loop-k
invariant-loop-k l = All (IsFederate l.groups) (take l.k l.federates)
