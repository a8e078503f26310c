use Rattle.std.proofs.Common.{arith}
use Rattle.kit_rules.proofs.FirstFaults.{all_next, all_through}
use Rattle.kit_rules.specs.Federation.{IsRule}
use Rattle.kit_rules.proofs.faults.first_wrong_rule.Goals as goal

pub loop-k-preserved : goal.loop-k-preserved
loop-k-preserved c = all_next (IsRule c.args.groups c.args.vars c.args.lookahead) c.args.rules.now c.loop-k.k c.index-rules-k.result (omega arith) c.index-rules-k.is c.loop-k.invariant c.in_default.ensures

pub returns : goal.returns
returns c = all_through (IsRule c.args.groups c.args.vars c.args.lookahead) c.args.rules.now c.loop-k.k (omega arith) c.loop-k.invariant
