-- Entries that are looked for in rows, and where they stand.
use Rattle.std.specs.Prelude.{ℕ, ◌+◌, ◌<◌, ◌/◌, Bool, true, List, length, Option, None, Some}
use Rattle.kit_queue.specs.declared.entry.Entry.{Entry}
use Rattle.kit_queue.specs.Entries.{is_settleable, is_numbered}
use Rattle.kit_calendar.specs.declared.spot.Spot.{Spot}
use Rattle.kit_calendar.specs.declared.spot.Sought.{Sought}
use Rattle.kit_calendar.specs.declared.spot.Sought.TheVariants.{Any, Settleable, Numbered}
use Rattle.kit_calendar.specs.Rows.{offset, list_at}
use Rattle.kit_base.specs.Order.{is_before}
use Rattle.std.specs.Prelude.{if◌then◌else◌}

-- the test of what is looked for
abbrev pub is_sought : Sought → Entry → Bool
is_sought Any e = true
is_sought (Settleable below) e = is_settleable below e
is_sought (Numbered sender number) e = is_numbered sender number e.message

-- a spot's place among the entries of all rows, with its entry
abbrev pub placed : List (List Entry) → Option Spot → Option (ℕ × Entry)
placed ls None = None
placed ls (Some spot) = Some (offset ls spot.row + spot.at, spot.entry)

-- there is such a place
abbrev pub IsThere : List (List Entry) → Option Spot → Type 0
IsThere ls None = Unit {0}
IsThere ls (Some spot) = (spot.row < length ls) × (spot.at < length (list_at ls spot.row))

-- the lesser of the best so far and another
abbrev pub lesser_spot : Option Spot → Spot → Option Spot
lesser_spot None spot = Some spot
lesser_spot (Some best) spot = if is_before spot.entry.message best.entry.message then Some spot else Some best

-- the day of an entry that was found, or 0
abbrev pub spot_day : ℕ → Option Spot → ℕ
spot_day width None = 0
spot_day width (Some spot) = spot.entry.message.time / width
