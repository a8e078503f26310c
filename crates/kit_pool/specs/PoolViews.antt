-- What contracts see of a pool, and of the seats of pools.
use Rattle.std.specs.Prelude.{ℕ}
use Rattle.kit_ground.specs.declared.ground.Protocol.{Ghosts}
use Rattle.kit_ground.specs.declared.place.Place.{Place}
use Rattle.kit_pool.specs.declared.pool.Pool.{Pool}
use Rattle.kit_pool.specs.declared.seat.TableSeat.{TableSeat}
use Rattle.kit_pool.specs.Pools.{no_client}
use Rattle.kit_pool.specs.Seating.{place_in}
use Rattle.kit_pool.specs.SeatViews.{IsNewSeatOn, IsSeatOn}

-- how many federates a pool has, and how many buffers each
abbrev pub federates_of : Pool → ℕ
federates_of pool = pool.table.shared.key.federates

abbrev pub buffers_of : Pool → ℕ
buffers_of pool = pool.table.shared.key.buffers

module _ {P : Type 0} {g : Ghosts P (Unit {0}) (Unit {0})} where
  -- the own place of a seat
  abbrev pub place_of : TableSeat P (Unit {0}) (Unit {0}) g → Place (Unit {0})
  place_of s = place_in no_client s.seat.me.0

  -- a seat is of this pool
  abbrev pub IsSeatOf : Pool → TableSeat P (Unit {0}) (Unit {0}) g → Type 0
  IsSeatOf pool s = IsSeatOn pool.table.shared s

  -- and is new, of the federate k
  abbrev pub IsNewSeatOf : Pool → ℕ → TableSeat P (Unit {0}) (Unit {0}) g → Type 0
  IsNewSeatOf pool k s = IsNewSeatOn (λ _. no_client) pool.table.shared k s
