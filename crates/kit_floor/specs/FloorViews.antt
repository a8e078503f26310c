-- What contracts see of a floor that threads share, and of its seats.
use Rattle.std.specs.Prelude.{◌≡◌, ℕ, length}
use Rattle.kit_ground.specs.declared.ground.Protocol.{Ghosts}
use Rattle.kit_ground.specs.declared.place.Place.{Place}
use Rattle.kit_pool.specs.declared.seat.TableSeat.{TableSeat}
use Rattle.kit_pool.specs.SeatViews.{IsNewSeatOn, IsSeatOn, desk_of, place_on}
use Rattle.kit_floor.specs.declared.floor.TableFloor.{TableFloor}

module _ {P V O : Type 0} where
  -- how many federates a floor has, how many buffers each, and the client's opening
  abbrev pub federates_of : TableFloor P V O → ℕ
  federates_of floor = floor.table.shared.key.federates

  abbrev pub buffers_of : TableFloor P V O → ℕ
  buffers_of floor = floor.table.shared.key.buffers

  abbrev pub opening_of : TableFloor P V O → O
  opening_of floor = floor.table.shared.key.opening.value

module _ {P V O : Type 0} {g : Ghosts P V O} where
  -- the own place of a seat, where the client's views at first are these by the opening
  abbrev pub place_of : (O → ℕ → V) → TableFloor P V O → TableSeat P V O g → Place V
  place_of first floor s = place_on first floor.table.shared s

  -- a seat is of this floor, and has no place but its own
  pub record CanStand (floor : TableFloor P V O) (s : TableSeat P V O g) : Type 0 where
    pub seat : IsSeatOn floor.table.shared s
    pub alone : length (desk_of s) ≡ 1

  -- a new seat of this floor, of the federate k
  abbrev pub IsNewSeatOf : (O → ℕ → V) → TableFloor P V O → ℕ → TableSeat P V O g → Type 0
  IsNewSeatOf first floor k s = IsNewSeatOn first floor.table.shared k s
