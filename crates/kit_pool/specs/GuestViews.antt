-- What contracts see of a guest's seat.
use Rattle.std.specs.Prelude.{◌≡◌, ℕ, List, [], ◌∷◌}
use Rattle.atomic_table.specs.declared.shared.Shared.{Shared}
use Rattle.kit_ground.specs.declared.ground.Protocol.{Ghosts}
use Rattle.kit_ground.specs.declared.place.Place.{Place}
use Rattle.kit_pool.specs.declared.guest.GuestSeat.{GuestSeat}
use Rattle.kit_pool.specs.declared.rule.Laid.{Laid}
use Rattle.kit_pool.specs.Seating.{others_of, place_in}
use Rattle.kit_pool.specs.Watching.{place_at_first}

module _ {P V O : Type 0} {g : Ghosts P V O} where
  -- the places that a guest's seat has, its own first
  abbrev pub guest_desk_of : GuestSeat P V O g → List (Place V)
  guest_desk_of s = s.seat.me.0

  -- the places of the guests' seats that it took in
  abbrev pub guests_with : GuestSeat P V O g → List (Place V)
  guests_with s = others_of s.seat.me.0

  -- it is the same guest's seat, of the same table
  pub record IsSameGuestSeat (old new : GuestSeat P V O g) : Type 0 where
    pub of_it : new.seat.table_id ≡ old.seat.table_id
    pub number : new.number ≡ old.number
    pub federates : new.federates ≡ old.federates
    pub buffers : new.buffers ≡ old.buffers

  module _ {R : Type 0} where
    -- a guest's seat is of this table, and has its numbers of federates and of buffers
    pub record IsGuestOn (table : Shared (Unit {0}) (List (Place V)) (Laid O) R) (s : GuestSeat P V O g) : Type 0 where
      pub of_it : s.seat.table_id ≡ table.table_id
      pub as_many : table.key.federates ≡ s.federates
      pub as_wide : table.key.buffers ≡ s.buffers

    -- a guest's own place, where the client's views at first are those of the table's opening
    abbrev pub guest_place_on : (O → ℕ → V) → Shared (Unit {0}) (List (Place V)) (Laid O) R → GuestSeat P V O g → Place V
    guest_place_on first table s = place_in (first table.key.opening.value) s.seat.me.0

    -- a new guest's seat of the number k, whose place is that at first
    pub record IsNewGuestOn (first : O → ℕ → V) (table : Shared (Unit {0}) (List (Place V)) (Laid O) R) (k : ℕ) (s : GuestSeat P V O g) : Type 0 where
      pub seat : IsGuestOn table s
      pub number : s.number ≡ k
      pub place : s.seat.me.0 ≡ place_at_first (first table.key.opening.value) table.key.federates table.key.buffers k ∷ []
