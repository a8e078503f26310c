use Rattle.kit_report.specs.Merges.{time_at}
use Rattle.kit_report.proofs.Best.{IsBest}
use Rattle.kit_report.proofs.merging.soonest.Given as goal

abbrev pub invariant-loop-at : goal.invariant-loop-at
invariant-loop-at l = IsBest (time_at l.places) l.at l.best
