use Rattle.kit_parts.proofs.Queueing.{queue_keeps_law}
use Rattle.kit_parts.proofs.queues.queue_keeps.Goals as goal

pub returns : goal.returns
returns c = queue_keeps_law
