-- One element of a list changed.
use Rattle.std.proofs.Common.{List, [], ap, arith, get_or, length, refl, set, suc, zero, ℕ, ◌<◌, ◌∷◌, ◌≡◌, ◌≢◌}
use lib.ListN.{get_elem?}
use Rattle.kit_ground.specs.Floors.{map_at}

module _ {A : Type 0} where
  pub length-changed : (f : A → A) (i : ℕ) (l : List A) → length (map_at f i l) ≡ length l
  length-changed f i [] = refl
  length-changed f zero (x ∷ xs) = refl
  length-changed f (suc i) (x ∷ xs) = ap suc (length-changed f i xs)

  -- where the element is known, it is a write
  pub changed_set : (f : A → A) (i : ℕ) (l : List A) (d : A) → map_at f i l ≡ set l i (f (get_or l i d))
  changed_set f i [] d = refl
  changed_set f zero (x ∷ xs) d = refl
  changed_set f (suc i) (x ∷ xs) d = ap (λ l. x ∷ l) (changed_set f i xs d)

  pub changed_here : (f : A → A) (i : ℕ) (l : List A) (d : A) → i < length l → get_or (map_at f i l) i d ≡ f (get_or l i d)
  changed_here f i [] d h = absurd (omega arith)
  changed_here f zero (x ∷ xs) d h = refl
  changed_here f (suc i) (x ∷ xs) d h = changed_here f i xs d (omega arith)

  pub changed_else : (f : A → A) (i : ℕ) (l : List A) (j : ℕ) → j ≢ i → get_elem? (map_at f i l) j ≡ get_elem? l j
  changed_else f i [] j n = refl
  changed_else f zero (x ∷ xs) zero n = absurd (n refl)
  changed_else f zero (x ∷ xs) (suc j) n = refl
  changed_else f (suc i) (x ∷ xs) zero n = refl
  changed_else f (suc i) (x ∷ xs) (suc j) n = changed_else f i xs j (λ e. n (ap suc e))
