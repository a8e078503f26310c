use Rattle.std.proofs.Common.{◌≡◌, ◌++◌}
use Rattle.kit_schedule.specs.Schedules.{entries_of}
use Rattle.kit_schedule.proofs.repetition.Repetition.write.Given as goal

abbrev pub invariant-loop : goal.invariant-loop
invariant-loop l = l.entries.items ≡ l.initial.entries.items ++ entries_of l.counter l.self.letters.now
