use Rattle.kit_parts.proofs.InOrder.{due_is_received_law}
use Rattle.kit_parts.proofs.queues.due_is_received.Goals as goal

pub returns : goal.returns
returns c = due_is_received_law
