use Rattle.kit_parts.proofs.InOrder.{queue_splits_law}
use Rattle.kit_parts.proofs.queues.queue_splits.Goals as goal

pub returns : goal.returns
returns c = queue_splits_law
