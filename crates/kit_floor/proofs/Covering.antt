-- A seat that has a place of each federate has all places, and in the order of the federates they are those that the rule speaks of.
use Rattle.std.proofs.Common.{◌≡◌, ◌≢◌, ℕ, zero, suc, ◌+◌, ◌<◌, ◌==◌, Bool, if◌then◌else◌, List, [], ◌∷◌, ◌++◌, drop, length, refl, sym, ap, ◌∙◌, subst, arith, eq-eqb, ne_eqb}
use mathlib.Core.Logic.{dite}
use mathlib.Core.Option.{some, some-injective}
use native.Mathlib.Decide.{ℕ_discrete}
use lib.ListN.{get_elem?}
use Rattle.atomic_table.proofs.Lists.{at_longer, drop_at}
use Rattle.kit_ground.specs.declared.place.Place.{Place}
use Rattle.kit_pool.specs.Seating.{DeskIsOwned}
use Rattle.kit_floor.specs.Accounts.{count_of_federates, places_in_order, places_in_order_from, place_number}
use Rattle.kit_floor.proofs.Counting.{amount, amount_each, amount_else, amount_none}

there : {A : Type 0} (l : List A) (i : ℕ) → i < length l → (a : A) × (get_elem? l i ≡ some a)
there [] i h = absurd (omega arith)
there (x ∷ xs) zero h = (x, refl)
there (x ∷ xs) (suc i) h = there xs i (omega arith)

dropped : {A : Type 0} (l : List A) (k : ℕ) → length l ≡ k → drop k l ≡ []
dropped [] zero e = refl
dropped [] (suc k) e = refl
dropped (x ∷ xs) zero e = absurd (omega arith)
dropped (x ∷ xs) (suc k) e = dropped xs k (omega arith)

module _ {V : Type 0} (all : List (Place V)) (owner : ℕ → ℕ × ℕ) (seat : ℕ) where
  place_is : (k : ℕ) (q : Place V) (desk : List (Place V)) → DeskIsOwned all owner seat desk → amount k desk ≡ 1 → get_elem? all k ≡ some q → place_number k desk ≡ q ∷ []
  place_is k q [] h one at = let z : amount k [] ≡ 0 = amount_none {V = V} k [] refl in let o : amount {V = V} k [] ≡ 1 = one in absurd (omega (arith, z, o))
  place_is k q (p ∷ ps) h one at = dite (ℕ_discrete p.own.number k)
      (λ same. ap (λ (t : Bool). if t then p ∷ [] else place_number k ps) (eq-eqb p.own.number k same)
      ∙ ap (λ (x : Place V). x ∷ []) (some-injective p q (sym h.0 ∙ (ap (get_elem? all) same ∙ at))))
      (λ other. ap (λ (t : Bool). if t then p ∷ [] else place_number k ps) (ne_eqb p.own.number k other)
      ∙ place_is k q ps h.2 (sym (amount_else k p ps other) ∙ one) at)

  -- the federates' places, of whom there are as many as places of theirs
  module _ (federates guests : List (Place V)) (whole : all ≡ federates ++ guests) where
    from_here : (desk : List (Place V)) → DeskIsOwned all owner seat desk → count_of_federates (length federates) desk ≡ length federates → (m k : ℕ) → k + m ≡ length federates
        → places_in_order_from k m desk ≡ drop k federates
    from_here desk h many zero k e = sym (dropped federates k (omega arith))
    from_here desk h many (suc m) k e =
        let t = there federates k (omega arith) in
        let at : get_elem? all k ≡ some t.0 = ap (λ l. get_elem? l k) whole ∙ at_longer federates guests k t.0 t.1 in
        let next : k + 1 ≡ suc k = omega arith in
        let rest = from_here desk h many m (k + 1) (omega arith) in
        ap (λ l. l ++ places_in_order_from (k + 1) m desk) (place_is k t.0 desk h (amount_each all owner seat (length federates) desk h many k (omega arith)) at)
        ∙ (ap (λ l. t.0 ∷ l) (rest ∙ ap (λ (i : ℕ). drop i federates) next) ∙ sym (drop_at federates k t.0 t.1))

    pub all_in_order : (desk : List (Place V)) → DeskIsOwned all owner seat desk → count_of_federates (length federates) desk ≡ length federates → places_in_order (length federates) desk ≡ federates
    all_in_order desk h many = let start : 0 + length federates ≡ length federates = omega arith in from_here desk h many (length federates) 0 start
