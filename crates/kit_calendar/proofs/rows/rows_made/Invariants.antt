-- the rows so far
use Rattle.std.proofs.Common.{◌≡◌, replicate}
use Rattle.kit_calendar.proofs.rows.rows_made.Given as goal

abbrev pub invariant-loop : goal.invariant-loop
invariant-loop l = l.rows.items ≡ replicate l.counter (record { start = 0; len = 0; room = 0 })
