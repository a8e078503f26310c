use Rattle.kit_parts.proofs.Granting.{due_by_queue_law}
use Rattle.kit_parts.proofs.queues.due_by_queue.Goals as goal

pub returns : goal.returns
returns c = due_by_queue_law
