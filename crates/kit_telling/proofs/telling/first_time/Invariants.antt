use Rattle.std.proofs.Common.{◌≡◌, drop}
use Rattle.kit_telling.specs.Tellings.{first_time}
use Rattle.kit_telling.proofs.telling.first_time.Given as goal

abbrev pub invariant-loop-entry : goal.invariant-loop-entry
invariant-loop-entry l = first_time (drop l.entry-index l.entries) ≡ first_time l.entries
