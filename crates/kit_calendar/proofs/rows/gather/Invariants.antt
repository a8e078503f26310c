-- the rows so far are copied behind all places, and stand there
use Rattle.std.proofs.Common.{◌≡◌, ◌≤◌, ◌++◌, take, drop}
use Rattle.std.specs.Prelude.{vec_capacity}
use Rattle.kit_calendar.specs.Rows.{lists, joined, packed}
use Rattle.kit_calendar.proofs.rows.gather.Given as goal

abbrev pub invariant-loop-index : goal.invariant-loop-index
invariant-loop-index l = record {
  places : l.places.items ≡ l.fn.places.items ++ joined (lists l.fn.places.items (take l.index l.fn.rows.items));
  rows : l.rows.items ≡ packed 0 (take l.index l.fn.rows.items) ++ drop l.index l.fn.rows.items;
  capacity : vec_capacity l.fn.places ≤ vec_capacity l.places;
}
