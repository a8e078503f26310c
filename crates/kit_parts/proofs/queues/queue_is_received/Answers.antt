use Rattle.kit_parts.proofs.Queueing.{queue_is_received_law}
use Rattle.kit_parts.proofs.queues.queue_is_received.Goals as goal

pub returns : goal.returns
returns c = queue_is_received_law
