-- The bound that a federate knows is a bound.
use Rattle.std.proofs.Common.{◌≡◌, ℕ, suc, ◌<◌, ◌==◌, ◌⊎◌, inl, inr, Bool, true, false, cond, List, [], ◌∷◌, length, fold, get_or, arith, refl, sym, ap, ◌∙◌, subst}
use Rattle.std.proofs.lemmas.Bool.{cases_lt, eqb-true}
use mathlib.Core.Option.{some}
use lib.ListN.{get_elem?}
use Rattle.kit_ground.specs.declared.place.Place.{Place}
use Rattle.kit_ground.proofs.Lists.{at_inside}
use Rattle.kit_model.specs.declared.share.Share.{Share}
use Rattle.kit_rounds.specs.Ledgers.{Ledger}
use Rattle.kit_rounds.specs.Rounds.{HasContributed, result_of, EndsRun}
use Rattle.kit_rounds.specs.Rule.{IsBound}
use Rattle.kit_rounds.proofs.Opening.{equal_sums_bound}
use Rattle.kit_lbts.specs.declared.view.LbtsView.{LbtsView}
use Rattle.kit_lbts.specs.Promises.{ledgers_of, unknown, bound_of}
use Rattle.kit_lbts.specs.Registers.{Learnt}
use Rattle.kit_lbts.specs.Rule.{RoundsHold}

-- the bound of some results is that of one whose sums are equal, or what it was before them
abbrev pub next_bound : ℕ → Share → ℕ
next_bound bound s = cond (s.out == s.inn) s.low bound

pub record Ended (results : List Share) (v : ℕ) : Type 0 where
  pub round : ℕ
  pub within : round < length results
  pub equal : (get_or results round unknown).out ≡ (get_or results round unknown).inn
  pub low : v ≡ (get_or results round unknown).low

pub bound_from : (a : ℕ) (results : List Share) → (fold next_bound a results ≡ a) ⊎ Ended results (fold next_bound a results)
bound_from a [] = inl refl
bound_from a (s ∷ ss) = elim (bound_from (next_bound a s) ss) [
  | inl e ↦ here (s.out == s.inn) refl e
  | inr h ↦ inr (record { round = suc h.round; within = omega (arith, h.within); equal = h.equal; low = h.low })
]
  where
    here : (b : Bool) → (s.out == s.inn) ≡ b → fold next_bound (next_bound a s) ss ≡ next_bound a s → (fold next_bound a (s ∷ ss) ≡ a) ⊎ Ended (s ∷ ss) (fold next_bound a (s ∷ ss))
    here true is e = inr (record { round = 0; within = omega arith; equal = eqb-true s.out s.inn is; low = e ∙ ap (λ t. cond t s.low a) is })
    here false is e = inl (e ∙ ap (λ t. cond t s.low a) is)

-- 0 bounds any world
nothing_below : (n : ℕ) (ledgers : ℕ → Ledger) → IsBound n ledgers 0
nothing_below n ledgers = record { copies = λ i j s lt there un. omega arith; promises = λ j lt. omega arith }

-- so does the low of a round whose sums are equal, to which all have contributed
pub ended_bounds : (places : List (Place LbtsView)) (j k : ℕ) → j < length places → RoundsHold places → ((i : ℕ) → i < length places → HasContributed (ledgers_of places i) k)
    → EndsRun (length places) (ledgers_of places) k → IsBound (length places) (ledgers_of places) (result_of (length places) (ledgers_of places) k).low
ended_bounds places j k j_in rounds all ended =
    let n = length places in
    let ledgers = ledgers_of places in
    elim (cases_lt k rounds.0) [
      | inl less ↦ rounds.1.bound k less ended
      | inr ge ↦
          let same : k ≡ rounds.0 = elim (rounds.1.rounds.counted j j_in) [ inl e ↦ omega (arith, e, all j j_in, ge) | inr e ↦ omega (arith, e, all j j_in, ge) ] in
          subst (λ d. ((i : ℕ) → i < n → HasContributed (ledgers i) d) → EndsRun n ledgers d → IsBound n ledgers (result_of n ledgers d).low) (sym same)
          (equal_sums_bound n rounds.0 ledgers rounds.1) all ended
    ]

pub known_bounds_bound : (places : List (Place LbtsView)) (j : ℕ) (p : Place LbtsView) → get_elem? places j ≡ some p → RoundsHold places
    → Learnt (length places) (ledgers_of places) j p → IsBound (length places) (ledgers_of places) (bound_of p.client)
known_bounds_bound places j p at rounds learnt =
    let n = length places in
    let ledgers = ledgers_of places in
    elim (bound_from 0 p.client.results) [
      | inl e ↦ subst (IsBound n ledgers) (sym e) (nothing_below n ledgers)
      | inr h ↦
          let known = learnt.results h.round h.within in
          let ended : EndsRun n ledgers h.round = subst (λ (s : Share). s.out ≡ s.inn) known.0 h.equal in
          subst (IsBound n ledgers) (sym (h.low ∙ ap (λ (s : Share). s.low) known.0)) (ended_bounds places j h.round (at_inside places j p at) rounds known.1 ended)
    ]
