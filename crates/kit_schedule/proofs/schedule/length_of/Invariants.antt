use Rattle.kit_schedule.proofs.Fronts.{IsMeasured}
use Rattle.kit_schedule.proofs.schedule.length_of.Given as goal

abbrev pub invariant-loop-word : goal.invariant-loop-word
invariant-loop-word l = IsMeasured l.words l.word-index l.length
