-- When a table's seats may be dealt and taken in.
use Rattle.std.specs.Prelude.{◌≡◌, ℕ, ◌-◌, ◌<◌, List, []}
use Rattle.atomic_table.specs.declared.shared.Seat.{Seat}
use Rattle.atomic_table.specs.declared.shared.Shared.{Shared}
use Rattle.kit_ground.specs.declared.ground.Protocol.{Ghosts}
use Rattle.kit_ground.specs.declared.place.Place.{Place}
use Rattle.kit_ground.specs.Rules.{places_from}
use Rattle.kit_pool.specs.declared.guest.GuestSeat.{GuestSeat}
use Rattle.kit_pool.specs.declared.rule.Laid.{Laid}
use Rattle.kit_pool.specs.declared.seat.TableSeat.{TableSeat}

module _ {V O R : Type 0} where
  -- a table has words; a seat is given away and taken in by a look at the first
  abbrev pub HasWords : Shared (Unit {0}) (List (Place V)) (Laid O) R → Type 0
  HasWords table = 0 < table.table_id.words

  -- it was laid for n federates with b buffers each
  pub record IsLaidFor (table : Shared (Unit {0}) (List (Place V)) (Laid O) R) (n b : ℕ) : Type 0 where
    pub federates : table.key.federates ≡ n
    pub buffers : table.key.buffers ≡ b
    pub some : HasWords table

  -- this seat has the places that are still to be dealt: from the number k on, of as many as there are in all
  pub record IsToDeal (first : O → ℕ → V) (table : Shared (Unit {0}) (List (Place V)) (Laid O) R) (k all : ℕ) (rest : Seat (Unit {0}) (List (Place V))) : Type 0 where
    pub of_it : rest.table_id ≡ table.table_id
    pub bare : rest.me.1 ≡ []
    pub places : rest.me.0 ≡ places_from (first table.key.opening.value) table.key.federates table.key.buffers k (all - k)

module _ {P V O R : Type 0} {g : Ghosts P V O} where
  -- a seat is one of this table's
  abbrev pub IsOf : Shared (Unit {0}) (List (Place V)) (Laid O) R → TableSeat P V O g → Type 0
  IsOf table s = s.seat.table_id ≡ table.table_id

  -- and so is a guest's seat
  abbrev pub GuestIsOf : Shared (Unit {0}) (List (Place V)) (Laid O) R → GuestSeat P V O g → Type 0
  GuestIsOf table s = s.seat.table_id ≡ table.table_id
