-- the best is that of the rows before and of the entries so far
use Rattle.std.proofs.Common.{◌+◌}
use Rattle.kit_calendar.specs.Held.{held, waiting}
use Rattle.kit_calendar.specs.Rows.{offset}
use Rattle.kit_calendar.specs.Least.{IsBestOf}
use Rattle.kit_calendar.specs.Spots.{is_sought, placed, IsThere}
use Rattle.kit_calendar.proofs.calendar.best_of_row.Given as goal

abbrev pub invariant-loop-at : goal.invariant-loop-at
invariant-loop-at l = record {
  best : IsBestOf (is_sought l.sought) (waiting l.rows) (offset (held l.rows) l.row + l.at) (placed (held l.rows) l.best);
  there : IsThere (held l.rows) l.best;
}
