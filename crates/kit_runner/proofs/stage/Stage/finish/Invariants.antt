use Rattle.kit_runner.specs.LockStages.{IsStage}
use Rattle.kit_runner.proofs.stage.Stage.finish.Given as goal

abbrev pub invariant-loop : goal.invariant-loop
invariant-loop g l =
    (goal.iterator-loop g).can_next l.iterator' × (goal.iterator-loop g).is_finite l.iterator' × IsStage l.federation l.self
