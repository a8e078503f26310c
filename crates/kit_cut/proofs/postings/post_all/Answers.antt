use Rattle.std.proofs.Common.{◌≡◌, ◌+◌, ◌∙◌, ℕ, List, ap, sym, arith, drop, get_or, length}
use Rattle.kit_rules.specs.Step.{no_message}
use Rattle.kit_oracle.specs.declared.desk.Desk.{Desk}
use Rattle.kit_oracle.specs.Desks.{receiver_mask}
use Rattle.kit_cut.specs.SinceCut.{desks_after_messages_since, desks_after_message_since}
use Rattle.kit_cut.proofs.Posting.{post_next_since, length_posted_since}
use Rattle.kit_cut.proofs.postings.post_all.Goals as goal

pub loop-message-preserved : goal.loop-message-preserved
loop-message-preserved c =
    let p = c.args.federation.now in
    let cut = c.args.cut.now in
    let k = c.loop-message.message-index in
    let m = get_or c.args.made.now k no_message in
    let ds = c.loop-message.desks.items in
    let inv = c.loop-message.invariant in
    let after : c.post.new.desks.items ≡ desks_after_message_since cut (receiver_mask p m) m 0 ds = c.in_ok-post.ensures ∙ ap (λ (mask : ℕ). desks_after_message_since cut mask m 0 ds) c.reach.ensures in
    let same : length c.post.new.desks.items ≡ length ds = ap (λ (xs : List Desk). length xs) after ∙ length_posted_since cut (receiver_mask p m) m 0 ds in
    record {
      rest = ap (desks_after_messages_since p cut (drop (k + 1) c.args.made.now)) after ∙ post_next_since p cut c.args.made.now k no_message ds c.loop-message-test.true ∙ inv.rest;
      few = omega (arith, inv.few, same);
      each = inv.each ∙ sym same;
    }
