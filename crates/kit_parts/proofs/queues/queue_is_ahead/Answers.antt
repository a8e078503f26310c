use Rattle.kit_parts.proofs.Settling.{queue_is_ahead_law}
use Rattle.kit_parts.proofs.queues.queue_is_ahead.Goals as goal

pub returns : goal.returns
returns c = queue_is_ahead_law
