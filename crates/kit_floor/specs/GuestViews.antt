-- What contracts see of guests on a floor that threads share.
use Rattle.std.specs.Prelude.{ℕ}
use Rattle.kit_ground.specs.declared.ground.Protocol.{Ghosts}
use Rattle.kit_ground.specs.declared.place.Place.{Place}
use Rattle.kit_pool.specs.declared.guest.GuestSeat.{GuestSeat}
use Rattle.kit_pool.specs.GuestViews.{IsGuestOn, IsNewGuestOn, guest_place_on}
use Rattle.kit_floor.specs.declared.floor.TableFloor.{TableFloor}

module _ {P V O : Type 0} {g : Ghosts P V O} where
  -- the own place of a guest, where the client's views at first are these by the opening
  abbrev pub guest_place_of : (O → ℕ → V) → TableFloor P V O → GuestSeat P V O g → Place V
  guest_place_of first floor s = guest_place_on first floor.table.shared s

  -- a guest's seat is of this floor
  abbrev pub IsGuestOf : TableFloor P V O → GuestSeat P V O g → Type 0
  IsGuestOf floor s = IsGuestOn floor.table.shared s

  -- a new guest's seat of this floor, of the number k
  abbrev pub IsNewGuestOf : (O → ℕ → V) → TableFloor P V O → ℕ → GuestSeat P V O g → Type 0
  IsNewGuestOf first floor k s = IsNewGuestOn first floor.table.shared k s
