-- the best so far against the rest is the best of all
use Rattle.std.proofs.Common.{◌≡◌, drop, None}
use Rattle.kit_rules.specs.Simulation.{least_pair}
use Rattle.kit_oracle.specs.Desks.{waiting_at}
use Rattle.kit_oracle.proofs.desk.next_of.Given as goal

abbrev pub invariant-loop-i : goal.invariant-loop-i
invariant-loop-i l = least_pair l.best (waiting_at l.end l.i (drop l.i l.desks)) ≡ least_pair None (waiting_at l.end 0 l.desks)
