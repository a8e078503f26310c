use Rattle.std.proofs.Common.{arith}
use Rattle.kit_rules.proofs.FirstFaults.{named_next}
use Rattle.kit_rules.proofs.faults.first_misnamed.Goals as goal

pub loop-k-preserved : goal.loop-k-preserved
loop-k-preserved g c = named_next g.T.Named.name_of c.args.items.now c.loop-k.k c.index-items-k.result c.name.result.now (omega arith) c.index-items-k.is c.name.ensures c.loop-k.invariant c.in_default.ensures.0 c.in_default.ensures.1
