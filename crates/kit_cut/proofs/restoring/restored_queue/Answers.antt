use Rattle.std.proofs.Common.{◌∙◌, get_or, ap}
use Rattle.kit_rules.specs.Step.{no_message}
use Rattle.kit_oracle.specs.Pending.{queue_with}
use Rattle.kit_cut.proofs.Posting.{enters_next}
use Rattle.kit_cut.proofs.restoring.restored_queue.Goals as goal

pub loop-message-preserved : goal.loop-message-preserved
loop-message-preserved c =
    let ms = c.args.pending.now in
    let k = c.loop-message.message-index in
    c.in_ok-insert.ensures.ok ∙ ap (queue_with (get_or ms k no_message)) c.loop-message.invariant ∙ enters_next ms k no_message c.loop-message-test.true c.requires
