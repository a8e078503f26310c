use Rattle.std.proofs.Common.{◌∙◌, ◌+◌, arith, ap}
use Rattle.std.proofs.lemmas.List.{take_all}
use Rattle.kit_rules.specs.Step.{no_message}
use Rattle.kit_oracle.specs.Times.{count_later, count_sent_later}
use Rattle.kit_oracle.proofs.Later.{sent_more}
use Rattle.kit_oracle.proofs.needs.add_times.Goals as goal

pub loop-message-preserved : goal.loop-message-preserved
loop-message-preserved c t =
    omega (arith, c.in_ok-add_time.ensures t, c.loop-message.invariant t, sent_more c.args.federation.now t c.loop-message.message-index c.args.made.now no_message c.loop-message-test.true)

pub returns : goal.returns
returns c t = c.loop-message.invariant t ∙ ap (λ ms. count_later t c.args.times.now + count_sent_later c.args.federation.now t ms) (take_all c.loop-message.message-index c.args.made.now c.loop-message-test.false)
