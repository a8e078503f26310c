-- the best is that of the rows so far
use Rattle.kit_calendar.specs.Held.{held, waiting}
use Rattle.kit_calendar.specs.Rows.{offset}
use Rattle.kit_calendar.specs.Least.{IsBestOf}
use Rattle.kit_calendar.specs.Spots.{is_sought, placed, IsThere}
use Rattle.kit_calendar.proofs.calendar.best_of.Given as goal

abbrev pub invariant-loop-row : goal.invariant-loop-row
invariant-loop-row l = record {
  best : IsBestOf (is_sought l.sought) (waiting l.rows) (offset (held l.rows) l.row) (placed (held l.rows) l.best);
  there : IsThere (held l.rows) l.best;
}
