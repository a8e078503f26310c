use Rattle.kit_parts.proofs.Queueing.{queue_delivers_law}
use Rattle.kit_parts.proofs.queues.queue_delivers.Goals as goal

pub returns : goal.returns
returns c = queue_delivers_law
