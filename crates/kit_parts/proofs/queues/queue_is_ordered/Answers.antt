use Rattle.kit_parts.proofs.InOrder.{queue_is_ordered_law}
use Rattle.kit_parts.proofs.queues.queue_is_ordered.Goals as goal

pub returns : goal.returns
returns c = queue_is_ordered_law
