-- What a federate knows of a stage that it publishes.
use Rattle.std.proofs.Common.{◌≡◌, ℕ, ◌+◌, ◌-◌, ◌<◌, ◌≤◌, ◌==◌, ◌&&◌, ◌||◌, not, nat_lt, ◌⊎◌, inl, inr, Bool, true, false, cond, List, length, get_or, arith, refl, sym, ap, ◌∙◌, subst, subst₂}
use Rattle.std.proofs.lemmas.Bool.{cases_eq, ltb-true, eqb-true, ne_eqb, and_parts, false≢true}
use mathlib.Core.Option.{some}
use lib.ListN.{get_elem?}
use Rattle.kit_ground.specs.declared.place.Place.{Place}
use Rattle.kit_ground.proofs.Lists.{at_inside}
use Rattle.kit_model.specs.Blocks.{in_block, stages, width}
use Rattle.kit_model.specs.Shares.{FitsWord}
use Rattle.kit_rounds.specs.Ledgers.{Ledger, nothing, at_round}
use Rattle.kit_rounds.specs.Rounds.{HasContributed}
use Rattle.kit_lbts.specs.declared.view.Scheme.{Scheme}
use Rattle.kit_lbts.specs.declared.view.Scheme.TheVariants.{Flat, Butterfly}
use Rattle.kit_lbts.specs.declared.view.LbtsView.{LbtsView}
use Rattle.kit_lbts.specs.Promises.{ledgers_of}
use Rattle.kit_lbts.specs.Reduction.{back_stage, has_outer, is_outer, shares_needed, published_share, publishes, share_stage, sources, takes_in, value_at}
use Rattle.kit_lbts.specs.Registers.{IsKnown, IsPlace, Learnt, shares_at}
use Rattle.kit_lbts.specs.Progress.{own_share}
use Rattle.kit_lbts.proofs.Covering.{TakesFirst, first_covers}
use Rattle.kit_lbts.proofs.Gathering.{places_by, published_are_values, shift}
use Rattle.kit_lbts.proofs.Knowledge.{takes_in_stage}
use Rattle.kit_lbts.proofs.RoundSteps.{ledger_before}

-- who publishes a stage before the own share stands within the butterfly, which has that stage
pub record IsStage (n x stage : ℕ) : Type 0 where
  pub inside : is_outer n x ≡ false
  pub within : x < width n
  pub has : stage ≤ stages n

stage_is : (n x stage : ℕ) → stage < 4 → publishes Butterfly n x stage ≡ true → IsStage n x stage
stage_is n x stage early does =
    let last = stage == 0 || nat_lt stage (stages n) in
    let rest : (nat_lt stage share_stage && not (is_outer n x) && last) ≡ true =
    subst₂ (λ t u. (t || (u && has_outer n x) || (nat_lt stage share_stage && not (is_outer n x) && last)) ≡ true) (ne_eqb stage share_stage (λ e. omega (arith, e))) (ne_eqb stage back_stage (λ e. omega (arith, e))) does in
    let both = and_parts (nat_lt stage share_stage && not (is_outer n x)) last rest in
    let tests = and_parts (nat_lt stage share_stage) (not (is_outer n x)) both.0 in
    let inside = outside (is_outer n x) tests.1 in
    record { inside = inside; within = ltb-true x (width n) (back (nat_lt x (width n)) inside); has = within both.1 }
  where
    outside : (b : Bool) → not b ≡ true → b ≡ false
    outside true e = absurd (false≢true e)
    outside false e = refl

    back : (b : Bool) → not b ≡ false → b ≡ true
    back true e = refl
    back false e = absurd (false≢true (sym e))

    within : (stage == 0 || nat_lt stage (stages n)) ≡ true → stage ≤ stages n
    within e = elim (cases_eq stage 0) [
      | inl zero' ↦ omega (arith, zero')
      | inr ne ↦ omega (arith, ltb-true stage (stages n) (ap (λ b. b || nat_lt stage (stages n)) (sym (ne_eqb stage 0 ne)) ∙ e))
    ]

pub is_stage : (scheme : Scheme) (n x stage : ℕ) → stage < 4 → publishes scheme n x stage ≡ true → IsStage n x stage
is_stage Flat n x stage early does = absurd (omega (arith, early, eqb-true stage share_stage does))
is_stage Butterfly n x stage early does = stage_is n x stage early does

-- the places that it needs for that take in the block of the stage
pub needed_covers : (scheme : Scheme) (n x stage i : ℕ) → x < n → n ≤ 16 → stage < 4 → publishes scheme n x stage ≡ true → takes_in n x stage i ≡ true → (i ≡ x) ⊎ TakesFirst n i (sources scheme n x) (shares_needed scheme n x stage)
needed_covers Flat n x stage i lt few early does takes = absurd (omega (arith, early, eqb-true stage share_stage does))
needed_covers Butterfly n x stage i lt few early does takes =
    let h = stage_is n x stage early does in
    let block : in_block n stage x i ≡ true = sym (takes_in_stage n x stage i (λ e. omega (arith, e, early)) (λ e. omega (arith, e, early))) ∙ takes in
    let count : shares_needed Butterfly n x stage ≡ stage + shift (has_outer n x) =
    needs (stage == share_stage) (stage == back_stage) (length (sources Butterfly n x)) (shift (has_outer n x)) (ne_eqb stage share_stage (λ e. omega (arith, e, early))) (ne_eqb stage back_stage (λ e. omega (arith, e, early))) in
    elim (first_covers n x i (has_outer n x) (omega arith) few h.within refl stage h.has block) [
      | inl e ↦ inl e
      | inr t ↦ inr (subst (λ k. TakesFirst n i (sources Butterfly n x) k) (sym count) (subst (λ b. TakesFirst n i (places_by n x b (has_outer n x)) (stage + shift (has_outer n x))) (sym h.inside) t))
    ]
  where
    needs : (a b : Bool) (many one : ℕ) → a ≡ false → b ≡ false → cond a 0 (cond b many (stage + one)) ≡ stage + one
    needs a b many one ea eb = ap (λ t. cond t 0 (cond b many (stage + one))) ea ∙ ap (λ t. cond t many (stage + one)) eb

module _ (places : List (Place LbtsView)) (j : ℕ) (p : Place LbtsView) (at : get_elem? places j ≡ some p) (few : length places ≤ 16)
    (learnt : Learnt (length places) (ledgers_of places) j p) (way : length p.client.contributions ≡ length p.client.results + 1) where
  abbrev n : ℕ
  n = length places

  abbrev ledgers : ℕ → Ledger
  ledgers = ledgers_of places

  abbrev k : ℕ
  k = length p.client.results

  own_is : own_share p.client ≡ shares_at ledgers k j
  own_is =
      let last : length p.client.contributions - 1 ≡ k = omega (arith, way) in
      ap (λ m. (get_or p.client.contributions m nothing).share) last ∙ sym (ap (λ (l : Ledger). (at_round l k).share) (ledger_before places j p p at))

  own_did : HasContributed (ledgers j) k
  own_did =
      let own : length (ledgers j).contributions ≡ k + 1 = ap (λ (l : Ledger). length l.contributions) (ledger_before places j p p at) ∙ way in
      omega (arith, own)

  -- who has taken in what a stage needs knows it, where it has room in a word
  pub stage_known : (stage : ℕ) → stage < 4 → publishes p.client.scheme (length places) j stage ≡ true → shares_needed p.client.scheme (length places) j stage ≤ length p.client.taken
      → ((owner stage k : ℕ) → IsPlace (length places) owner stage → ((i : ℕ) → i < length places → takes_in (length places) owner stage i ≡ true → HasContributed (ledgers_of places i) k)
      → FitsWord (value_at (length places) (shares_at (ledgers_of places) k) owner stage))
      → IsKnown (length places) (ledgers_of places) j stage (length p.client.results) (published_share p.client.scheme (length places) j (own_share p.client) p.client.taken stage)
  stage_known stage early does has fits =
      let j_in : j < n = at_inside places j p at in
      let place : IsPlace n j stage = record { there = j_in; known = omega (arith, early); inside = λ _. (is_stage p.client.scheme n j stage early does).within } in
      let is : published_share p.client.scheme n j (own_share p.client) p.client.taken stage ≡ value_at n (shares_at ledgers k) j stage =
      ap (λ own. published_share p.client.scheme n j own p.client.taken stage) own_is
      ∙ published_are_values p.client.scheme n j stage (shares_at ledgers k) p.client.taken j_in few (record { few = learnt.few; each = λ l lt. (learnt.taken l lt).is }) does has in
      let made : (i : ℕ) → i < n → takes_in n j stage i ≡ true → HasContributed (ledgers i) k = λ i lt takes. elim (needed_covers p.client.scheme n j stage i j_in few early does takes) [
        | inl e ↦ subst (λ x. HasContributed (ledgers x) k) (sym e) own_did
        | inr t ↦ (learnt.taken t.place (omega (arith, t.before, has))).made i lt t.takes
      ] in
      record { place = place; fits = subst FitsWord (sym is) (fits j stage k place made); is = is; made = made }
