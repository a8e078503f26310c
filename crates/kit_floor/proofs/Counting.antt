-- How often each federate stands in a list of places, and that as many federates' places as federates, no two of one, are of all federates.
use Rattle.std.proofs.Common.{◌≡◌, ◌≢◌, ℕ, zero, suc, ◌+◌, ◌<◌, ◌≤◌, ◌==◌, Bool, true, false, if◌then◌else◌, List, [], ◌∷◌, length, refl, sym, ap, ◌∙◌, subst, arith, eqb-true, eq-eqb, ne_eqb, lt_of_not-le}
use Rattle.std.proofs.lemmas.Bool.{le-ltb, lt-ltb}
use mathlib.Core.Logic.{dite}
use native.Mathlib.Decide.{dec_le, ℕ_discrete}
use lib.ListN.{get_elem?}
use Rattle.kit_ground.specs.declared.place.Place.{Place}
use Rattle.kit_ground.specs.Sets.{sum_to}
use Rattle.kit_ground.proofs.Sums.{sum_at_most, sum_change, sum_same, sum_zero}
use Rattle.kit_pool.specs.Seating.{DeskIsOwned}
use Rattle.kit_floor.specs.Accounts.{count_of_federates}

-- a sum that is as great as it can be
pub sum_full : (f : ℕ → ℕ) (n : ℕ) → ((j : ℕ) → j < n → f j ≤ 1) → sum_to f n ≡ n → (j : ℕ) → j < n → f j ≡ 1
sum_full f zero most full j lt = absurd (omega arith)
sum_full f (suc n) most full j lt =
    let below = sum_at_most f n (λ i li. most i (omega arith)) in
    let last = most n (omega arith) in
    dite (ℕ_discrete j n)
    (λ same. let e : f j ≡ f n = ap f same in omega arith)
    (λ other. sum_full f n (λ i li. most i (omega arith)) (omega arith) j (omega arith))

one_if : Bool → ℕ
one_if true = 1
one_if false = 0

module _ {V : Type 0} where
  pub amount : ℕ → List (Place V) → ℕ
  amount k [] = 0
  amount k (p ∷ ps) = one_if (p.own.number == k) + amount k ps

  pub amount_here : (k : ℕ) (p : Place V) (ps : List (Place V)) → p.own.number ≡ k → amount k (p ∷ ps) ≡ 1 + amount k ps
  unfolding amount one_if
  amount_here k p ps e = ap (λ (t : Bool). one_if t + amount k ps) (eq-eqb p.own.number k e)

  pub amount_else : (k : ℕ) (p : Place V) (ps : List (Place V)) → p.own.number ≢ k → amount k (p ∷ ps) ≡ amount k ps
  unfolding amount one_if
  amount_else k p ps e = let z : 0 + amount k ps ≡ amount k ps = omega arith in ap (λ (t : Bool). one_if t + amount k ps) (ne_eqb p.own.number k e) ∙ z

  pub amount_none : (k : ℕ) (desk : List (Place V)) → length desk ≡ 0 → amount k desk ≡ 0
  unfolding amount
  amount_none k [] e = refl
  amount_none k (p ∷ ps) e = absurd (omega arith)

  module _ (all : List (Place V)) (owner : ℕ → ℕ × ℕ) (seat : ℕ) where
    none_behind : (k x : ℕ) (ps : List (Place V)) → owner k ≡ (seat, x) → length ps ≤ x → DeskIsOwned all owner seat ps → amount k ps ≡ 0
    none_behind k x [] of short h = amount_none k [] refl
    none_behind k x (p ∷ ps) of short h =
        let other : p.own.number ≢ k = λ e. let same : length ps ≡ x = ap (λ (y : ℕ × ℕ). y.1) (sym h.1 ∙ (ap owner e ∙ of)) in absurd (omega arith) in
        amount_else k p ps other ∙ none_behind k x ps of (omega arith) h.2

    -- no federate has two places in one seat
    pub amount_once : (k : ℕ) (desk : List (Place V)) → DeskIsOwned all owner seat desk → amount k desk ≤ 1
    amount_once k [] h = let e = amount_none k [] refl in omega arith
    amount_once k (p ∷ ps) h = dite (ℕ_discrete p.own.number k)
        (λ same. let e = amount_here k p ps same in let short : length ps ≤ length ps = omega arith in let z = none_behind k (length ps) ps (ap owner (sym same) ∙ h.1) short h.2 in omega arith)
        (λ other. let e = amount_else k p ps other in let i = amount_once k ps h.2 in omega arith)

    -- all together are as many as the federates' places
    pub amount_all : (n : ℕ) (desk : List (Place V)) → DeskIsOwned all owner seat desk → sum_to (λ k. amount k desk) n ≡ count_of_federates n desk
    amount_all n [] h = sum_zero (λ k. amount k []) n (λ j lj. amount_none j [] refl)
    amount_all n (p ∷ ps) h = dite (dec_le n p.own.number)
        (λ guest. let one : count_of_federates n (p ∷ ps) ≡ 0 + count_of_federates n ps = ap (λ (t : Bool). (if t then 1 else 0) + count_of_federates n ps) (le-ltb p.own.number n guest) in
        let same = sum_same (λ k. amount k (p ∷ ps)) (λ k. amount k ps) n (λ j lj. amount_else j p ps (λ e. absurd (omega arith))) in
        let rest = amount_all n ps h.2 in omega arith)
        (λ other. let m : ℕ = p.own.number in
        let inside : m < n = lt_of_not-le other in
        let one : count_of_federates n (p ∷ ps) ≡ 1 + count_of_federates n ps = ap (λ (t : Bool). (if t then 1 else 0) + count_of_federates n ps) (lt-ltb p.own.number n inside) in
        let changes = sum_change (λ k. amount k ps) (λ k. amount k (p ∷ ps)) n m inside (λ j lj apart. sym (amount_else j p ps (λ e. apart (sym e)))) in
        let here = amount_here m p ps refl in
        let rest = amount_all n ps h.2 in
        omega arith)

    -- so where they are as many as the federates, each federate is among them
    pub amount_each : (n : ℕ) (desk : List (Place V)) → DeskIsOwned all owner seat desk → count_of_federates n desk ≡ n → (k : ℕ) → k < n → amount k desk ≡ 1
    amount_each n desk h many = sum_full (λ k. amount k desk) n (λ j lj. amount_once j desk h) (amount_all n desk h ∙ many)
