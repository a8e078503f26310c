-- Seats and the table that they are of.
use Rattle.std.specs.Prelude.{◌≡◌, ℕ, ◌+◌, ◌<◌, ◌≤◌, List, [], ◌∷◌, ◌++◌, length}
use mathlib.Core.Option.{some}
use lib.ListN.{get_elem?}
use Rattle.atomic_table.specs.Seated.{TableId}
use Rattle.kit_ground.specs.declared.place.Place.{Place}
use Rattle.kit_ground.specs.Layout.{size_of}

-- a table of n federates with b buffers each, which has all words of a floor but for those in front
pub record IsSized (front : List ℕ) (n b : ℕ) (table : TableId) : Type 0 where
  pub words : length front + table.words ≡ size_of n b
  pub slots : table.slots ≡ 0

-- the numbers that a seat has are those of its own place
pub record IsOwn {V : Type 0} (number n b : ℕ) (desk : List (Place V)) : Type 0 where
  pub there : 0 < length desk
  pub own : (p : Place V) → get_elem? desk 0 ≡ some p → (p.own.number ≡ number) × (p.own.federates ≡ n) × (p.own.buffers ≡ b)

-- the limits of a floor, and of the number of a seat
pub record IsWithin (number n b : ℕ) : Type 0 where
  pub inside : number < n
  pub few : n ≤ 16
  pub small : b ≤ 1024

-- lists that were taken in one after another, the last first
abbrev pub desks_taken_in : {A : Type 0} → List (List A) → List A
desks_taken_in [] = []
desks_taken_in (x ∷ xs) = desks_taken_in xs ++ x
