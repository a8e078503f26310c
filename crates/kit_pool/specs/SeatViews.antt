-- What contracts see of a seat, and of the table that it is of.
use Rattle.std.specs.Prelude.{◌≡◌, ℕ, List, [], ◌∷◌}
use Rattle.atomic_table.specs.declared.shared.Shared.{Shared}
use Rattle.kit_ground.specs.declared.ground.Protocol.{Ghosts}
use Rattle.kit_ground.specs.declared.place.Place.{Place}
use Rattle.kit_ground.specs.Rules.{own_at_first}
use Rattle.kit_pool.specs.declared.rule.Laid.{Laid}
use Rattle.kit_pool.specs.declared.seat.TableSeat.{TableSeat}
use Rattle.kit_pool.specs.Seating.{others_of, place_in}

module _ {P V O : Type 0} {g : Ghosts P V O} where
  -- the places that a seat has, its own first
  abbrev pub desk_of : TableSeat P V O g → List (Place V)
  desk_of s = s.seat.me.0

  -- the places of the seats that it took in
  abbrev pub others_with : TableSeat P V O g → List (Place V)
  others_with s = others_of s.seat.me.0

  -- it is the same seat, of the same table
  pub record IsSameTableSeat (old new : TableSeat P V O g) : Type 0 where
    pub of_it : new.seat.table_id ≡ old.seat.table_id
    pub number : new.number ≡ old.number
    pub federates : new.federates ≡ old.federates
    pub buffers : new.buffers ≡ old.buffers

  module _ {R : Type 0} where
    -- a seat is of this table, and has its numbers of federates and of buffers
    pub record IsSeatOn (table : Shared (Unit {0}) (List (Place V)) (Laid O) R) (s : TableSeat P V O g) : Type 0 where
      pub of_it : s.seat.table_id ≡ table.table_id
      pub as_many : table.key.federates ≡ s.federates
      pub as_wide : table.key.buffers ≡ s.buffers

    -- a seat's own place, where the client's views at first are those of the table's opening
    abbrev pub place_on : (O → ℕ → V) → Shared (Unit {0}) (List (Place V)) (Laid O) R → TableSeat P V O g → Place V
    place_on first table s = place_in (first table.key.opening.value) s.seat.me.0

    -- a new seat of the federate k, whose place is that at first
    pub record IsNewSeatOn (first : O → ℕ → V) (table : Shared (Unit {0}) (List (Place V)) (Laid O) R) (k : ℕ) (s : TableSeat P V O g) : Type 0 where
      pub seat : IsSeatOn table s
      pub number : s.number ≡ k
      pub place : s.seat.me.0 ≡ record { own = own_at_first table.key.federates table.key.buffers k; client = first table.key.opening.value k } ∷ []
