-- Who receives a message in the federation of a plan.
use Rattle.std.proofs.Common.{◌≡◌, ℕ, inl, inr, ◌<◌, ◌≤◌, false, ◌&&◌, not, nat_eq, nat_lt, nat_le, arith, sym, ap, ◌∙◌, List, length, get_or, map}
use Rattle.std.specs.List.{list_any, All, range_with_len}
use Rattle.std.proofs.Math.Path.{fun_ext}
use Rattle.std.proofs.lemmas.List.{get_or-map, get_or_past, length-map}
use Rattle.kit_rules.specs.declared.table.Group.{Group}
use Rattle.std.proofs.lemmas.Bool.{ne_eqb, le-ltb, and_right, cases_lt}
use Rattle.std.proofs.lemmas.List.Folds.{list_any_none}
use Rattle.kit_base.specs.declared.message.Message.{Message}
use Rattle.kit_rules.specs.Parts.{no_group, group_at}
use Rattle.kit_rules.specs.Delivery.{has_bit, receivers_of, is_transported}
use Rattle.kit_regions.specs.declared.region.Update.{Update}
use Rattle.kit_regions.specs.declared.region.Subscription.{Subscription}
use Rattle.kit_regions.specs.Plan.{Plan, no_update, update_at}
use Rattle.kit_regions.specs.Limits.{IsPlan}
use Rattle.kit_regions.specs.Overlap.{overlaps, is_near, is_reached, is_subscribed, mask_of}
use Rattle.kit_regions.specs.Lowered.{federation_of, lowered_group}
use Rattle.kit_regions.specs.Regional.{is_receiver, is_regionally_transported}
use Rattle.kit_regions.specs.Laws.{ReceiversOverlap, MasksAreSubscribers}
use Rattle.kit_regions.proofs.Masks.{mask_no_more, has_bit_passes, has_bit_without, not_zero_is_any}

-- a federate past those that subscribe has no subscription
pub none_past : (subs : List Subscription) (u : Update) (n j : ℕ) → All (λ (s : Subscription). s.federate < n) subs → n ≤ j → is_subscribed subs u j ≡ false
none_past subs u n j h le = list_any_none (is_reached u j) subs (λ k d lt.
    let below : (get_or subs k d).federate < n = h k d lt in
    ap (λ b. b && is_near u (get_or subs k d)) (ne_eqb (get_or subs k d).federate j (λ e. omega arith)))

pub masks_are_subscribers_law : MasksAreSubscribers
unfolding mask_of
masks_are_subscribers_law subs u j h = has_bit_passes (is_subscribed subs u) 16 j (none_past subs u 16 j h)

-- the subscriptions of a plan are of its federates
pub subscribers_within : (plan : Plan) → IsPlan plan → All (λ (s : Subscription). s.federate < length plan.federates) plan.subscriptions
subscribers_within plan f k d lt = (f.subscriptions.each k d lt).federate

pub subscribers_few : (plan : Plan) → IsPlan plan → All (λ (s : Subscription). s.federate < 16) plan.subscriptions
subscribers_few plan f k d lt = let h : (get_or plan.subscriptions k d).federate < length plan.federates = subscribers_within plan f k d lt in omega (arith, h, f.federates.count.1)

-- nothing reaches the update that stands for those past the last
no_reach : (j : ℕ) (s : Subscription) → is_reached no_update j s ≡ false
no_reach j s = and_right (nat_eq s.federate j) (is_near no_update s) (and_right (nat_eq s.group 0) (overlaps s.range no_update.range) (ap (λ b. b && nat_lt 0 s.range.to) (le-ltb s.range.from 0 (omega arith))))

pub none_reached : (subs : List Subscription) (j : ℕ) → is_subscribed subs no_update j ≡ false
none_reached subs j = list_any_none (is_reached no_update j) subs (λ k d lt. no_reach j (get_or subs k d))

no_mask : (subs : List Subscription) → mask_of subs no_update ≡ 0
unfolding mask_of
no_mask subs = mask_no_more (is_subscribed subs no_update) 0 16 (λ j le. none_reached subs j)

-- the mask of a number in the federation
pub members_at : (plan : Plan) (u : ℕ) → (group_at (federation_of plan) u).members ≡ mask_of plan.subscriptions (update_at plan u)
members_at plan u =
    let up = lowered_group plan.subscriptions in
    let members : Group → ℕ = λ g. g.members in
    elim (cases_lt u (length plan.updates)) [
      | inl lt ↦ ap members (get_or-map up plan.updates u no_update no_group lt)
      | inr ge ↦ ap members (get_or_past (map up plan.updates) u no_group (let e : length (map up plan.updates) ≡ length plan.updates = length-map plan.updates up in omega arith))
          ∙ sym (ap (mask_of plan.subscriptions) (get_or_past plan.updates u no_update ge) ∙ no_mask plan.subscriptions)
    ]

pub receivers_overlap_law : ReceiversOverlap
receivers_overlap_law plan f sender u j =
    has_bit_without (group_at (federation_of plan) u).members sender j
    ∙ ap (λ m. not (nat_eq j sender) && has_bit m j) (members_at plan u)
    ∙ ap (λ b. not (nat_eq j sender) && b) (masks_are_subscribers_law plan.subscriptions (update_at plan u) j (subscribers_few plan f))

-- none past the last federate receives anything
no_receiver : (plan : Plan) → IsPlan plan → (sender u j : ℕ) → length plan.federates ≤ j → has_bit (receivers_of (federation_of plan) sender u) j ≡ false
no_receiver plan f sender u j le =
    receivers_overlap_law plan f sender u j ∙ and_right (not (nat_eq j sender)) (is_subscribed plan.subscriptions (update_at plan u) j) (none_past plan.subscriptions (update_at plan u) (length plan.federates) j (subscribers_within plan f) le)

-- what is transported
pub transported_same : (plan : Plan) → IsPlan plan → (m : Message) → is_transported (federation_of plan) m ≡ is_regionally_transported plan m
transported_same plan f m =
    let mask = receivers_of (federation_of plan) m.sender m.group in
    let tests : has_bit mask ≡ is_receiver plan m = fun_ext (receivers_overlap_law plan f m.sender m.group) in
    ap (λ b. nat_le m.time plan.end && b) (not_zero_is_any mask (length plan.federates) (no_receiver plan f m.sender m.group) ∙ ap (λ t. list_any t (range_with_len 0 (length plan.federates))) tests)
