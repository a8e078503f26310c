use Rattle.kit_parts.proofs.InOrder.{copies_are_transported_law}
use Rattle.kit_parts.proofs.queues.copies_are_transported.Goals as goal

pub returns : goal.returns
returns c = copies_are_transported_law
