use Rattle.kit_parts.proofs.InOrder.{new_is_pending_law}
use Rattle.kit_parts.proofs.queues.new_is_pending.Goals as goal

pub returns : goal.returns
returns c = new_is_pending_law
