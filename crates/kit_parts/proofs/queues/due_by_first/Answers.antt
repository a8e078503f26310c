use Rattle.kit_parts.proofs.InOrder.{due_by_first_law}
use Rattle.kit_parts.proofs.queues.due_by_first.Goals as goal

pub returns : goal.returns
returns c = due_by_first_law
