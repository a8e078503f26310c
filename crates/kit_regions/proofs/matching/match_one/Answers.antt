use Rattle.std.proofs.Common.{◌∙◌, ℕ, ◌^◌, sym, ap, bit_or, slice_index_or}
use Rattle.kit_regions.specs.declared.region.Subscription.{Subscription}
use Rattle.kit_regions.proofs.Joining.{mask_joins, mask_stays, no_subscriptions, bit_of}
use Rattle.kit_regions.proofs.matching.match_one.Goals.{then-reaches, else-reaches}
use Rattle.kit_regions.proofs.matching.match_one.Goals as goal

pub loop-subscription-init : goal.loop-subscription-init
loop-subscription-init c = sym (no_subscriptions c.args.update.now)

pub loop-subscription-preserved : goal.loop-subscription-preserved
loop-subscription-preserved c = elim c.if-reaches.branch [
  | then-reaches w ↦ (let subs = c.args.subscriptions.now in
      let i = c.loop-subscription.subscription-index in
      let d : Subscription = record { group = 0; federate = 0; range = record { from = 0; to = 0 } } in
      let k : ℕ = (slice_index_or subs i d).federate in
      w.mask-is
      ∙ ap (bit_or c.loop-subscription.mask) (bit_of k (c.requires i d c.loop-subscription-test.true))
      ∙ ap (λ m. bit_or m (2 ^ k)) c.loop-subscription.invariant
      ∙ mask_joins subs c.args.update.now i d c.requires c.loop-subscription-test.true (sym c.reaches.ensures ∙ w.if-reaches.true))
  | else-reaches w ↦ w.mask-is ∙ c.loop-subscription.invariant ∙ mask_stays c.args.subscriptions.now c.args.update.now c.loop-subscription.subscription-index _ c.requires c.loop-subscription-test.true (sym c.reaches.ensures ∙ w.if-reaches.false)
]
