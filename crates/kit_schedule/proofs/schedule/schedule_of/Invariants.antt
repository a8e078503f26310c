use Rattle.kit_schedule.proofs.Fronts.{IsFront}
use Rattle.kit_schedule.proofs.schedule.schedule_of.Given as goal

abbrev pub invariant-loop-word : goal.invariant-loop-word
invariant-loop-word l = IsFront l.words l.word-index l.entries.items
