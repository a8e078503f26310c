use Rattle.std.proofs.Common.{arith}
use Rattle.std.proofs.lemmas.List.Elements.{All-more}
use Rattle.kit_rules.proofs.FirstFaults.{all_through}
use Rattle.kit_rules.specs.Federation.{IsAction}
use Rattle.kit_rules.proofs.faults.first_wrong_action.Goals as goal

pub loop-k-preserved : goal.loop-k-preserved
loop-k-preserved c =
    All-more (IsAction c.args.groups c.args.vars c.args.lookahead) c.args.actions.now c.loop-k.k _ c.loop-k-test.true c.loop-k.invariant c.in_default.ensures

pub returns : goal.returns
returns c = all_through (IsAction c.args.groups c.args.vars c.args.lookahead) c.args.actions.now c.loop-k.k (omega arith) c.loop-k.invariant
