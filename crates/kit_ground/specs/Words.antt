-- Both rules over a list of words, as a floor keeps them.
use Rattle.std.specs.Prelude.{◌≡◌, ℕ, List, length}
use Rattle.kit_ground.specs.declared.place.Place.{Place}
use Rattle.kit_ground.specs.Layout.{memory_of, size_of}
use Rattle.kit_ground.specs.Rules.{FloorHolds, Rule}

-- the words of a floor whose federates have b buffers each
pub record RuledWords {V : Type 0} (rule : Rule V) (b : ℕ) (words : List ℕ) (places : List (Place V)) : Type 0 where
  pub sized : length words ≡ size_of (length places) b
  pub floor : FloorHolds b (memory_of (length places) b words) places
  pub client : rule.holds (memory_of (length places) b words) places
