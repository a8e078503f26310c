use Rattle.kit_runner.proofs.LockBeginning.{HaveBegun}
use Rattle.kit_runner.proofs.stage.Stage.new.Given as goal

abbrev pub invariant-loop-federate : goal.invariant-loop-federate
invariant-loop-federate l = HaveBegun l.federation l.federate l.members.items
