use Rattle.std.proofs.Common.{◌≡◌, ◌+◌, ◌∙◌, ℕ, List, ap, arith, drop, get_or, length}
use Rattle.kit_rules.specs.Step.{no_message}
use Rattle.kit_oracle.specs.declared.desk.Desk.{Desk}
use Rattle.kit_oracle.specs.Desks.{desks_after_messages, desks_after_message_from, receiver_mask}
use Rattle.kit_oracle.proofs.Rounds.{post_next, length_posted}
use Rattle.kit_oracle.proofs.posting.post_all.Goals as goal

pub loop-message-preserved : goal.loop-message-preserved
loop-message-preserved c =
    let p = c.args.federation.now in
    let k = c.loop-message.message-index in
    let m = get_or c.args.made.now k no_message in
    let ds = c.loop-message.desks.items in
    let inv = c.loop-message.invariant in
    let after : c.post.new.desks.items ≡ desks_after_message_from (receiver_mask p m) m 0 ds = c.in_ok-post.ensures ∙ ap (λ (mask : ℕ). desks_after_message_from mask m 0 ds) c.reach.ensures in
    record {
      rest = ap (desks_after_messages p (drop (k + 1) c.args.made.now)) after ∙ post_next p c.args.made.now k no_message ds c.loop-message-test.true ∙ inv.rest;
      few = omega (arith, inv.few, ap (λ (xs : List Desk). length xs) after, length_posted (receiver_mask p m) m 0 ds);
    }
