use Rattle.kit_parts.proofs.Queueing.{queue_takes_retraction_law}
use Rattle.kit_parts.proofs.queues.queue_takes_retraction.Goals as goal

pub returns : goal.returns
returns c = queue_takes_retraction_law
