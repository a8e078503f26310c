use Rattle.std.proofs.Common.{arith}
use Rattle.kit_rules.proofs.FirstFaults.{all_next, all_through}
use Rattle.kit_rules.specs.Federation.{IsFederate}
use Rattle.kit_rules.proofs.faults.first_wrong_federate.Goals as goal

pub loop-k-preserved : goal.loop-k-preserved
loop-k-preserved c = all_next (IsFederate c.args.groups) c.args.federates.now c.loop-k.k c.index-federates-k.result (omega arith) c.index-federates-k.is c.loop-k.invariant c.in_default.ensures

pub returns : goal.returns
returns c = all_through (IsFederate c.args.groups) c.args.federates.now c.loop-k.k (omega arith) c.loop-k.invariant
