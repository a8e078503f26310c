use Rattle.kit_parts.proofs.Settling.{settled_is_safe_law}
use Rattle.kit_parts.proofs.queues.settled_is_safe.Goals as goal

pub returns : goal.returns
returns c = settled_is_safe_law
