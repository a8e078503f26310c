use Rattle.std.proofs.Common.{sym, ◌∙◌, IsTrue}
use Rattle.kit_base.specs.declared.message.Message.{Message}
use Rattle.kit_base.specs.Order.{is_before}
use Rattle.kit_cut.proofs.Rises.{next_rises, before_goes_on}
use Rattle.kit_cut.proofs.order.keys_rise.Goals as goal

pub loop-k-preserved : goal.loop-k-preserved
loop-k-preserved c = next_rises (λ (a b : Message). IsTrue (is_before a b)) before_goes_on c.args.messages.now c.loop-k.k _ c.loop-k.auto.k c.loop-k-test.true c.loop-k.invariant (sym c.comes_before.ensures ∙ c.if-not-comes_before.false)
