use Rattle.std.proofs.Common.{ℕ, ◌<◌}
use Rattle.kit_replay.specs.Stages.{HasEnded}
use Rattle.kit_replay.proofs.stage.Stage.closing_end.Given as goal

abbrev pub invariant-loop-federate : goal.invariant-loop-federate
invariant-loop-federate l = (k : ℕ) → k < l.federate → HasEnded l.self.nodes.items k
