use Rattle.std.proofs.Common.{◌≡◌, length}
use Rattle.run_torture.proofs.trials.disturbers.Given as goal

abbrev pub invariant-loop-worker : goal.invariant-loop-worker
invariant-loop-worker l = length l.gates.items ≡ l._worker
