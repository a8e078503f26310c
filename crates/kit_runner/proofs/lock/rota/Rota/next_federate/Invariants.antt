use Rattle.std.proofs.Common.{◌≡◌}
use Rattle.kit_runner.proofs.lock.rota.Rota.next_federate.Given as goal

abbrev pub invariant-loop-ahead : goal.invariant-loop-ahead
invariant-loop-ahead l = l.self.serves ≡ l.fn.self.serves
