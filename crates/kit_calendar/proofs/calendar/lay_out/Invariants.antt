-- the entries so far are laid out
use Rattle.std.proofs.Common.{◌≡◌, ◌+◌, length}
use Rattle.kit_calendar.specs.Held.{held, waiting}
use Rattle.kit_calendar.specs.Buckets.{IsLaidOut, IsDealt}
use Rattle.kit_calendar.proofs.calendar.lay_out.Given as goal

abbrev pub invariant-loop-entry : goal.invariant-loop-entry
invariant-loop-entry l = record {
  laid : IsLaidOut l.width (length (held l.fn.rows)) l.entries.items l.entry-index (waiting l.rows);
  dealt : IsDealt l.width (length (held l.fn.rows)) 0 (held l.rows);
  rows : length (held l.rows) ≡ length (held l.fn.rows);
  most : l.rows.most ≡ l.fn.rows.most;
  count : l.rows.count ≡ l.fn.rows.count + l.entry-index;
}
