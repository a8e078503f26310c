use Rattle.std.proofs.Common.{arith, IsTrue, refl}
use Rattle.std.proofs.lemmas.List.Elements.{All-more}
use Rattle.kit_rules.proofs.FirstFaults.{all_through}
use Rattle.kit_rules.specs.Federation.{IsCond}
use Rattle.kit_rules.proofs.faults.first_wrong_cond.Goals as goal

pub loop-k-preserved : goal.loop-k-preserved
loop-k-preserved c =
    let passed : IsTrue c.is_cond.result = rw c.if-not-is_cond.false refl in
    All-more (IsCond c.args.vars) c.args.conds.now c.loop-k.k _ c.loop-k-test.true c.loop-k.invariant (c.is_cond.ensures.0 passed)

pub returns : goal.returns
returns c = all_through (IsCond c.args.vars) c.args.conds.now c.loop-k.k (omega arith) c.loop-k.invariant
