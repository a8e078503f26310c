use Rattle.std.proofs.Common.{ℕ, take, [], None}
use Rattle.kit_replay.specs.Stages.{GoesOn, IsStage}
use Rattle.kit_replay.proofs.stage.Stage.run.Given as goal

abbrev pub invariant-loop-federate : goal.invariant-loop-federate
invariant-loop-federate l = record {
  goes_on : GoesOn l.federation l.self;
  stage : (limit : ℕ) → IsStage l.federation limit [] None l.initial.self → IsStage l.federation limit (take l.federate-index l.schedule) None l.self;
}
