-- no entry is before the day that is looked at
use Rattle.kit_calendar.specs.Held.{waiting}
use Rattle.kit_calendar.specs.Buckets.{IsFromDay}
use Rattle.kit_calendar.proofs.calendar.least_of.Given as goal

abbrev pub invariant-loop : goal.invariant-loop
invariant-loop l = IsFromDay l.width l.day (waiting l.rows)
