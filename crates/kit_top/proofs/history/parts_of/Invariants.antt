use Rattle.kit_top.proofs.Histories.{AreTold}
use Rattle.kit_top.proofs.history.parts_of.Given as goal

abbrev pub invariant-loop-federate : goal.invariant-loop-federate
invariant-loop-federate l = AreTold l.nodes l.federate l.parts.items
