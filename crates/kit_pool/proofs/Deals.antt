-- Seats are dealt one after another.
use Rattle.std.proofs.Common.{◌≡◌, ℕ, suc, ◌+◌, ◌-◌, ◌<◌, List, ◌∷◌, ap, ◌∙◌, arith}
use Rattle.kit_ground.specs.declared.place.Place.{Place}
use Rattle.kit_ground.specs.Rules.{places_from}
use Rattle.kit_pool.specs.Seating.{others_of}
use Rattle.kit_pool.specs.Watching.{place_at_first}

module _ {V : Type 0} (first : ℕ → V) (n b k all : ℕ) (below : k < all) (places : List (Place V)) (is : places ≡ places_from first n b k (all - k)) where
  one_more : all - k ≡ suc (all - (k + 1))
  one_more = omega arith

  parted : places ≡ place_at_first first n b k ∷ places_from first n b (k + 1) (all - (k + 1))
  parted = is ∙ ap (λ (m : ℕ). places_from first n b k m) one_more

  -- what is left once the first of them is given away
  pub left : others_of places ≡ places_from first n b (k + 1) (all - (k + 1))
  left = ap others_of parted
