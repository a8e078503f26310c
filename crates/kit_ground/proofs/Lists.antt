-- The elements of a list, as `get_elem?` gives them.
use Rattle.std.proofs.Common.{◌≡◌, ℕ, zero, suc, ◌<◌, List, [], ◌∷◌, length, map, get_or, replicate, refl, sym, ap, arith}
use mathlib.Core.Option.{some, some-injective, some-ne-none}
use lib.ListN.{get_elem?}

module _ {A : Type 0} where
  pub at_or : (l : List A) (i : ℕ) (d : A) → i < length l → get_elem? l i ≡ some (get_or l i d)
  at_or [] i d h = absurd (omega arith)
  at_or (x ∷ xs) zero d h = refl
  at_or (x ∷ xs) (suc i) d h = at_or xs i d (omega arith)

  pub at_inside : (l : List A) (i : ℕ) (a : A) → get_elem? l i ≡ some a → i < length l
  at_inside [] i a e = absurd (some-ne-none a (sym e))
  at_inside (x ∷ xs) zero a e = omega arith
  at_inside (x ∷ xs) (suc i) a e = let h = at_inside xs i a e in omega arith

  pub at_map_or : {B : Type 0} (f : A → B) (l : List A) (i : ℕ) (a : A) (d : B) → get_elem? l i ≡ some a → get_or (map f l) i d ≡ f a
  at_map_or f [] i a d e = absurd (some-ne-none a (sym e))
  at_map_or f (x ∷ xs) zero a d e = ap f (some-injective x a e)
  at_map_or f (x ∷ xs) (suc i) a d e = at_map_or f xs i a d e

  -- a list of one element alone has it everywhere
  pub same_everywhere : (n i : ℕ) (a : A) → get_or (replicate n a) i a ≡ a
  same_everywhere zero i a = refl
  same_everywhere (suc n) zero a = refl
  same_everywhere (suc n) (suc i) a = same_everywhere n i a
