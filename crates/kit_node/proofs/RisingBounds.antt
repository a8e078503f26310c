-- The bound that a federate knows does not fall with the result of the next round.
use Rattle.std.proofs.Common.{◌≡◌, ℕ, suc, ◌+◌, ◌<◌, ◌≤◌, ◌==◌, inl, inr, Bool, true, false, cond, List, [], ◌∷◌, ◌++◌, length, get_or, refl, sym, ap, ◌∙◌, subst, arith}
use Rattle.std.proofs.lemmas.Bool.{eqb-true}
use Rattle.std.proofs.lemmas.List.{get_or_append_left, get_or_push, length_push}
use Rattle.std.proofs.lemmas.List.Sums.{fold_push}
use Rattle.kit_ground.specs.declared.place.Place.{Place}
use Rattle.kit_ground.specs.Memory.{Memory}
use Rattle.kit_ground.specs.Rules.{World}
use Rattle.kit_ground.proofs.Lists.{at_inside}
use Rattle.kit_model.specs.declared.share.Share.{Share}
use Rattle.kit_rounds.specs.Ledgers.{Ledger}
use Rattle.kit_rounds.specs.Rounds.{EndsRun, HasContributed, result_of}
use Rattle.kit_rounds.specs.Rule.{RoundRule}
use Rattle.kit_rounds.proofs.Knowing.{bounds_rise, opens_with_result}
use Rattle.kit_lbts.specs.declared.view.LbtsView.{LbtsView}
use Rattle.kit_lbts.specs.Agreement.{agreeing_rule}
use Rattle.kit_lbts.specs.Promises.{bound_in, bound_of, ledgers_of, unknown}
use Rattle.kit_lbts.specs.SeatLaws.{IsInWorld}
use Rattle.kit_lbts.proofs.Bounds.{bound_from, next_bound}
use Rattle.kit_lbts.proofs.GrantAgreement.{without_agreement}
use Rattle.kit_lbts.proofs.RoundSteps.{ledger_before}

abbrev P : Type 0
P = Place LbtsView

-- the bound that one result more tells
pub bound_push : (xs : List Share) (s : Share) → bound_in (xs ++ s ∷ []) ≡ next_bound (bound_in xs) s
bound_push xs s = fold_push next_bound 0 xs s

module _ (q : P) (m : Memory) (places : List P) (w : World agreeing_rule q m places) (xs : List Share) (s : Share) (is : q.client.results ≡ xs ++ s ∷ []) (level : length q.client.contributions ≡ length q.client.results) where
  abbrev n : ℕ
  n = length places

  abbrev ledgers : ℕ → Ledger
  ledgers = ledgers_of places

  abbrev l : ℕ
  l = length xs

  long : length q.client.results ≡ length xs + 1
  long = ap length is ∙ length_push xs s

  inside : q.own.number < length places
  inside = at_inside places q.own.number q w.here

  known : (k : ℕ) → k < length q.client.results → (get_or q.client.results k unknown ≡ result_of n ledgers k) × ((i : ℕ) → i < n → HasContributed (ledgers i) k)
  known k lt = (w.client.floor.each q.own.number q w.here).learnt.results k lt

  last_lt : length xs < length q.client.results
  last_lt = omega (arith, long)

  rule : RoundRule n ledgers (suc l)
  rule =
      let x = without_agreement q m places w in
      let before = ledger_before places q.own.number q q x.here in
      let count : length (ledgers q.own.number).contributions ≡ suc l = ap (λ (y : Ledger). length y.contributions) before ∙ (level ∙ (let e : length q.client.results ≡ suc l = omega (arith, long) in e)) in
      opens_with_result n x.client.rounds.0 q.own.number l ledgers x.client.rounds.1 inside count (known l last_lt).1

  last_is : s ≡ result_of n ledgers l
  last_is = sym (get_or_push xs s unknown l refl) ∙ (ap (λ (rs : List Share). get_or rs l unknown) (sym is) ∙ (known l last_lt).0)

  before_is : (k : ℕ) → k < length xs → get_or xs k unknown ≡ result_of n ledgers k
  before_is k lt = sym (get_or_append_left xs (s ∷ []) unknown k lt) ∙ (ap (λ (rs : List Share). get_or rs k unknown) (sym is) ∙ (known k (omega (arith, lt, long))).0)

  -- an earlier run ended with a low that is not greater
  not_below : s.out ≡ s.inn → bound_in xs ≤ s.low
  not_below e = elim (bound_from 0 xs) [
    | inl none ↦ omega (arith, none)
    | inr h ↦
        let at_first = before_is h.round h.within in
        let first : EndsRun n ledgers h.round = subst (λ (t : Share). t.out ≡ t.inn) at_first h.equal in
        let second : EndsRun n ledgers l = subst (λ (t : Share). t.out ≡ t.inn) last_is e in
        let rise = bounds_rise n (suc l) h.round l ledgers (let i = inside in omega arith) rule h.within (omega arith) first second in
        let low_first = ap (λ (t : Share). t.low) at_first in
        let low_last = ap (λ (t : Share). t.low) last_is in
        let low = h.low in
        omega (arith, rise, low_first, low_last, low)
  ]

  bound_is : bound_of q.client ≡ next_bound (bound_in xs) s
  bound_is = ap bound_in is ∙ bound_push xs s

  rises : bound_in xs ≤ bound_of q.client
  rises = by (s.out == s.inn) refl
    where
      by : (b : Bool) → (s.out == s.inn) ≡ b → bound_in xs ≤ bound_of q.client
      by true e = let h = not_below (eqb-true s.out s.inn e) in let b : bound_of q.client ≡ s.low = bound_is ∙ ap (λ (t : Bool). cond t s.low (bound_in xs)) e in omega (arith, h, b)
      by false e = let b : bound_of q.client ≡ bound_in xs = bound_is ∙ ap (λ (t : Bool). cond t s.low (bound_in xs)) e in omega (arith, b)

pub bound_rises : (q : P) → IsInWorld q → (xs : List Share) (s : Share) → q.client.results ≡ xs ++ s ∷ [] → length q.client.contributions ≡ length q.client.results → bound_in xs ≤ bound_of q.client
bound_rises q (m, places, w) xs s is level = rises q m places w xs s is level
