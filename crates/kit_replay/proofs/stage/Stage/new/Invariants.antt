use Rattle.kit_replay.proofs.Beginning.{HaveBegun}
use Rattle.kit_replay.proofs.stage.Stage.new.Given as goal

abbrev pub invariant-loop-federate : goal.invariant-loop-federate
invariant-loop-federate l = HaveBegun l.federation l.rounds l.federate l.nodes.items
