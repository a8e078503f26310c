-- the buckets that are to come are the same, and they grow
use Rattle.std.proofs.Common.{◌≡◌, ◌<◌, ◌≤◌, ◌-◌}
use Rattle.kit_calendar.specs.Buckets.{doubled, buckets_for}
use Rattle.kit_calendar.proofs.calendar.buckets_for.Given as goal

abbrev pub invariant-loop-doubled : goal.invariant-loop-doubled
invariant-loop-doubled l = record {
  some : 0 < l.doubled;
  grown : l.buckets ≤ l.doubled;
  same : doubled l.room l.room l.doubled ≡ buckets_for l.room l.buckets;
}

abbrev pub decreases-loop-doubled : goal.decreases-loop-doubled
decreases-loop-doubled l = l.room - l.doubled
