use Rattle.kit_telling.proofs.Entries.{Telling}
use Rattle.kit_telling.proofs.telling.tell_block.Given as goal

abbrev pub invariant-loop-at : goal.invariant-loop-at
invariant-loop-at l = Telling l.federation l.federate l.entries l.fn.text.items l.text.items l.at
