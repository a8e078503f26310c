-- To publish the stage that is due keeps the rule.
use Rattle.std.proofs.Common.{◌≡◌, ℕ, ◌+◌, ◌-◌, ◌<◌, nat_lt, inl, inr, Bool, true, false, length, take, refl, sym, ap, subst, ◌∙◌, arith}
use Rattle.std.proofs.lemmas.Bool.{and_parts, ltb-true}
use Rattle.std.proofs.lemmas.List.{take_all}
use Rattle.kit_ground.specs.declared.address.Address.TheVariants.{Register}
use Rattle.kit_ground.specs.declared.place.Deed.TheVariants.{Published}
use Rattle.kit_ground.specs.declared.place.Place.{Place}
use Rattle.kit_ground.specs.Rules.{Keeps}
use Rattle.kit_model.specs.declared.share.Share.{Share}
use Rattle.kit_model.specs.Blocks.{width}
use Rattle.kit_model.specs.Shares.{share_word}
use Rattle.kit_lbts.specs.declared.view.LbtsView.{LbtsView}
use Rattle.kit_lbts.specs.Agreement.{agreeing_rule}
use Rattle.kit_lbts.specs.Progress.{own_share, view_after}
use Rattle.kit_lbts.specs.Promises.{result_at}
use Rattle.kit_lbts.specs.Reduction.{back_stage, has_outer, shares_needed, published_share, publishes, reg_of, share_with_taken}
use Rattle.kit_lbts.proofs.Gathering.{shift}
use Rattle.kit_lbts.proofs.WithAgreement.{backs_agree, values_agree}
use Rattle.kit_fly.specs.Rounds.{RoundState}
use Rattle.kit_fly.specs.Shows.{HoldsValue, IsComplete, IsOnTheWay}
use Rattle.kit_fly.specs.Stages.{IsDue}
use Rattle.kit_fly.proofs.Slots.{IsBack, IsValue, published_is, some_stages}
use Rattle.kit_fly.proofs.Sources.{inner_long}
use Rattle.kit_fly.proofs.Views.{under_way_is}

abbrev P : Type 0
P = Place LbtsView

-- a share published in the register of a stage
abbrev Kept : P → ℕ → ℕ × ℕ × Share → Type 0
Kept p stage x = Keeps agreeing_rule view_after p (Register (reg_of x.0 stage x.1)) (λ _. Published (reg_of x.0 stage x.1) (share_word x.2 x.1))

pub outer_of : (n x : ℕ) → 0 < shift (has_outer n x) → width n + x < n
outer_of n x some = ltb-true (width n + x) n (and_parts (nat_lt x (width n)) (nat_lt (width n + x) n) (yes (has_outer n x) some)).1
  where
    yes : (b : Bool) → 0 < shift b → b ≡ true
    yes true lt = refl
    yes false lt = absurd (omega (arith, lt))

module _ (k : RoundState) (p : P) (h : HoldsValue k p) (stage : ℕ) (due : IsDue k.federates k.number k.taken stage) where
  does : publishes p.client.scheme p.own.federates p.own.number stage ≡ true
  does = (λ i. publishes (h.scheme_is i) (h.federates i) (h.number i) stage) ∙ due.published

  many : shares_needed p.client.scheme p.own.federates p.own.number stage ≡ k.taken
  many = (λ i. shares_needed (h.scheme_is i) (h.federates i) (h.number i) stage) ∙ due.now

  -- a value on the way
  value_kept : IsValue k.federates k.number stage → IsOnTheWay k p → Kept p stage (k.number, k.round, k.value)
  value_kept v way =
      let u = way.under_way in
      let has : shares_needed p.client.scheme p.own.federates p.own.number stage ≡ length p.client.taken = many ∙ sym u.taken in
      let share : published_share p.client.scheme p.own.federates p.own.number (own_share p.client) p.client.taken stage ≡ k.value =
      ap (λ t. share_with_taken p.client.scheme p.own.federates p.own.number (own_share p.client) (take t p.client.taken)) has
      ∙ (ap (share_with_taken p.client.scheme p.own.federates p.own.number (own_share p.client)) (take_all (length p.client.taken) p.client.taken (omega arith))
      ∙ ((λ i. share_with_taken (h.scheme_is i) (h.federates i) (h.number i) (own_share p.client) p.client.taken) ∙ sym u.value)) in
      let at : (p.own.number, length p.client.contributions, published_share p.client.scheme p.own.federates p.own.number (own_share p.client) p.client.taken stage) ≡ (k.number, k.round, k.value) =
      λ i. (h.number i, h.round i, share i) in
      let way_is = under_way_is p.client (h.round ∙ sym u.results) in
      subst (Kept p stage) at (values_agree p stage v.early does way_is (omega (arith, has)))

  -- the result
  back_kept : IsBack k.federates k.number stage → IsComplete k p → Kept p stage (k.number, k.round, k.value)
  back_kept b done =
      let r = done.closed.results in
      let level : length p.client.contributions ≡ length p.client.results = h.round ∙ sym r in
      let last : k.round - 1 ≡ length p.client.results - 1 = omega (arith, r) in
      let share : result_at p.client (length p.client.results - 1) ≡ k.value = sym (done.closed.value ∙ ap (result_at p.client) last) in
      let does' : publishes p.client.scheme p.own.federates p.own.number back_stage ≡ true = ap (publishes p.client.scheme p.own.federates p.own.number) (sym b.five) ∙ does in
      let at : (p.own.number, length p.client.contributions, result_at p.client (length p.client.results - 1)) ≡ (k.number, k.round, k.value) = λ i. (h.number i, h.round i, share i) in
      let some = h.started in
      subst (λ s. Kept p s (k.number, k.round, k.value)) (sym b.five) (subst (Kept p back_stage) at (backs_agree p does' level (omega (arith, r, some))))

  -- a value is due before the last register, and the result with it
  value_early : IsValue k.federates k.number stage → IsComplete k p → ⊥
  value_early v done =
      let n = k.federates in
      let x = k.number in
      let long = inner_long n x v.inside in
      let now = due.now in
      let all = done.all in
      let some = done.some in
      elim v.last [
        | inl e ↦
            let folded : 0 < shift (has_outer n x) = omega (arith, v.many, now, e, some) in
            let has = some_stages n x (outer_of n x folded) in
            omega (arith, v.many, now, all, long, e, has)
        | inr lt ↦ omega (arith, v.many, now, all, long, lt)
      ]

  back_late : IsBack k.federates k.number stage → IsOnTheWay k p → ⊥
  back_late b way =
      let long = inner_long k.federates k.number b.inside in
      let now = due.now in
      let before = way.before (omega (arith, b.many, now)) in
      omega (arith, b.many, b.one, now, long, before)

  pub due_kept : Keeps agreeing_rule view_after p (Register (reg_of k.number stage k.round)) (λ _. Published (reg_of k.number stage k.round) (share_word k.value k.round))
  due_kept = elim (published_is k.federates k.number stage due.other due.published) [
    | inl v ↦ elim h.value [ inl way ↦ value_kept v way | inr done ↦ absurd (value_early v done) ]
    | inr b ↦ elim h.value [ inl way ↦ absurd (back_late b way) | inr done ↦ back_kept b done ]
  ]
