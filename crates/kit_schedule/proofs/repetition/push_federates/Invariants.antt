use Rattle.std.proofs.Common.{◌≡◌, ◌++◌, map, take}
use Rattle.kit_schedule.specs.Schedules.{federate_of}
use Rattle.kit_schedule.proofs.repetition.push_federates.Given as goal

abbrev pub invariant-loop-letter : goal.invariant-loop-letter
invariant-loop-letter l = l.entries.items ≡ l.initial.entries.items ++ map federate_of (take l.letter-index l.letters)
