-- What rows hold.
use Rattle.std.specs.Prelude.{List}
use Rattle.kit_queue.specs.declared.entry.Entry.{Entry}
use Rattle.kit_calendar.specs.declared.rows.Rows.{Rows}
use Rattle.kit_calendar.specs.Rows.{lists, joined}

-- the entries of each row
abbrev pub held : Rows → List (List Entry)
held rows = lists rows.places.items rows.rows.items

-- all entries, row after row
abbrev pub waiting : Rows → List Entry
waiting rows = joined (held rows)
