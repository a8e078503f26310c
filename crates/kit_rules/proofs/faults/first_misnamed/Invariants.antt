-- all before the place are right
use Rattle.std.proofs.Common.{take}
use Rattle.kit_rules.specs.Faults.{AreNamed}
use Rattle.kit_rules.proofs.faults.first_misnamed.Given as goal

abbrev pub invariant-loop-k : goal.invariant-loop-k
invariant-loop-k g l = AreNamed g.T.Named.name_of (take l.k l.items)
