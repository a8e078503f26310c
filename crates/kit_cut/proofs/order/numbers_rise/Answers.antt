use Rattle.std.proofs.Common.{◌<◌, arith}
use Rattle.kit_rules.specs.declared.own.Own.{Own}
use Rattle.kit_cut.proofs.Rises.{next_rises}
use Rattle.kit_cut.proofs.order.numbers_rise.Goals as goal

pub loop-k-preserved : goal.loop-k-preserved
loop-k-preserved c = next_rises (λ (a b : Own). a.number < b.number) (λ x y z h g. omega arith) c.args.own.now c.loop-k.k _ c.loop-k.auto.k c.loop-k-test.true c.loop-k.invariant c.if-own-k.false
