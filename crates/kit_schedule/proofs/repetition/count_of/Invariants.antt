use Rattle.kit_schedule.proofs.Counts.{IsReading}
use Rattle.kit_schedule.proofs.repetition.count_of.Given as goal

abbrev pub invariant-loop-digit : goal.invariant-loop-digit
invariant-loop-digit l = IsReading l.digits l.digit-index l.count
