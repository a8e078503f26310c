-- the least and the greatest time so far
use Rattle.std.proofs.Common.{◌≡◌, take}
use Rattle.kit_calendar.specs.Buckets.{least_time, greatest_time}
use Rattle.kit_calendar.proofs.calendar.span.Given as goal

abbrev pub invariant-loop-entry : goal.invariant-loop-entry
invariant-loop-entry l = record {
  least : l.least ≡ least_time l.fn.time (take l.entry-index l.entries.items);
  greatest : l.greatest ≡ greatest_time l.fn.time (take l.entry-index l.entries.items);
}
