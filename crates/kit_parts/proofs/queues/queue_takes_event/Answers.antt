use Rattle.kit_parts.proofs.Queueing.{queue_takes_event_law}
use Rattle.kit_parts.proofs.queues.queue_takes_event.Goals as goal

pub returns : goal.returns
returns c = queue_takes_event_law
