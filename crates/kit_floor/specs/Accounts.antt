-- What a floor came to.
use Rattle.std.specs.Prelude.{ℕ, zero, suc, ◌+◌, ◌==◌, nat_lt, if◌then◌else◌, List, [], ◌∷◌, ◌++◌, length}
use Rattle.kit_ground.specs.declared.place.Place.{Place}
use Rattle.kit_ground.specs.Layout.{memory_of}
use Rattle.kit_ground.specs.Memory.{Memory}

-- the words of a closed floor, whose federates have so many buffers each, and the places of all federates in their order
pub record Account (V : Type 0) : Type 0 where
  pub buffers : ℕ
  pub words : List ℕ
  pub places : List (Place V)

module _ {V : Type 0} where
  abbrev pub memory_at_end : Account V → Memory
  memory_at_end a = memory_of (length a.places) a.buffers a.words

  -- how many of these places are those of federates, of whom there are n; the others are guests'
  abbrev pub count_of_federates : ℕ → List (Place V) → ℕ
  count_of_federates n [] = 0
  count_of_federates n (p ∷ ps) = (if nat_lt p.own.number n then 1 else 0) + count_of_federates n ps

  -- the first place of the federate k, alone
  abbrev pub place_number : ℕ → List (Place V) → List (Place V)
  place_number k [] = []
  place_number k (p ∷ ps) = if p.own.number == k then p ∷ [] else place_number k ps

  -- the places of m federates, from k on
  abbrev pub places_in_order_from : ℕ → ℕ → List (Place V) → List (Place V)
  places_in_order_from k zero desk = []
  places_in_order_from k (suc m) desk = place_number k desk ++ places_in_order_from (k + 1) m desk

  -- the places of n federates, in their order
  abbrev pub places_in_order : ℕ → List (Place V) → List (Place V)
  places_in_order n desk = places_in_order_from 0 n desk
