use Rattle.kit_parts.proofs.Granting.{grants_agree_by_queue_law}
use Rattle.kit_parts.proofs.queues.grants_agree_by_queue.Goals as goal

pub returns : goal.returns
returns c = grants_agree_by_queue_law
