-- The place of the federate that is seated at a plain floor, and that of one that is not.
use Rattle.std.proofs.Common.{◌≡◌, ℕ, zero, suc, ◌<◌, List, [], ◌∷◌, length, get_or, sym, subst, ◌≢◌, refl, ap, ◌∙◌}
use mathlib.Core.Option.{some, some-injective, some-ne-none}
use lib.ListN.{get_elem?}
use Rattle.kit_ground.specs.declared.place.Place.{Place}
use Rattle.kit_ground.specs.Coming.{AreSteps}
use Rattle.kit_ground.specs.Floors.{Floor, place_of}
use Rattle.kit_ground.specs.Rules.{own_at_first}
use Rattle.kit_ground.proofs.Lists.{at_or}

read_at : {A : Type 0} (l : List A) (i : ℕ) (a d : A) → get_elem? l i ≡ some a → get_or l i d ≡ a
read_at [] i a d e = absurd (some-ne-none a (sym e))
read_at (x ∷ xs) zero a d e = some-injective x a e
read_at (x ∷ xs) (suc i) a d e = read_at xs i a d e

module _ {O V : Type 0} (first : O → ℕ → V) (f : Floor O V) (k : ℕ) (seated : f.seated ≡ k) where
  abbrev blank_place : Place V
  blank_place = record { own = own_at_first 0 0 0; client = first f.opening 0 }

  pub seated_is : (p : Place V) → get_elem? f.places k ≡ some p → place_of first f ≡ p
  seated_is p at = subst (λ (j : ℕ). get_or f.places j blank_place ≡ p) (sym seated) (read_at f.places k p blank_place at)

  pub seated_at : k < length f.places → get_elem? f.places k ≡ some (place_of first f)
  seated_at inside = subst (λ (j : ℕ). get_elem? f.places j ≡ some (place_of first f)) seated (at_or f.places f.seated blank_place (subst (λ (j : ℕ). j < length f.places) (sym seated) inside))

same_at : {A : Type 0} (l k : List A) (i j : ℕ) (d : A) → get_elem? l i ≡ get_elem? k j → get_or l i d ≡ get_or k j d
same_at [] [] i j d e = refl
same_at [] (y ∷ ys) i zero d e = absurd (some-ne-none y (sym e))
same_at [] (y ∷ ys) i (suc j) d e = same_at [] ys i j d e
same_at (x ∷ xs) [] zero j d e = absurd (some-ne-none x e)
same_at (x ∷ xs) [] (suc i) j d e = same_at xs [] i j d e
same_at (x ∷ xs) (y ∷ ys) zero zero d e = some-injective x y e
same_at (x ∷ xs) (y ∷ ys) zero (suc j) d e = same_at (x ∷ xs) ys zero j d e
same_at (x ∷ xs) (y ∷ ys) (suc i) zero d e = same_at xs (y ∷ ys) i zero d e
same_at (x ∷ xs) (y ∷ ys) (suc i) (suc j) d e = same_at xs ys i j d e

-- it stays as it is when another makes steps
pub place_else : {O V : Type 0} (first : O → ℕ → V) (f h : Floor O V) → AreSteps first f h → (k : ℕ) → k ≢ f.seated → place_of first (record h { seated = k }) ≡ place_of first (record f { seated = k })
place_else first f h came k other =
    same_at h.places f.places k k _ (came.others k other) ∙ ap (λ o. get_or f.places k (record { own = own_at_first 0 0 0; client = first o 0 })) came.opening
