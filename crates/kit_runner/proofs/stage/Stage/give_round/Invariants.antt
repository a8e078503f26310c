use Rattle.std.proofs.Common.{◌≡◌, ℕ, ◌<◌, true}
use Rattle.kit_runner.specs.LockStages.{HasEnded, IsStage}
use Rattle.kit_runner.proofs.stage.Stage.give_round.Given as goal

abbrev pub invariant-loop-federate : goal.invariant-loop-federate
invariant-loop-federate l = record {
  stage : IsStage l.federation l.self;
  ended : l.have_ended ≡ true → (k : ℕ) → k < l.federate → HasEnded l.self k;
}
