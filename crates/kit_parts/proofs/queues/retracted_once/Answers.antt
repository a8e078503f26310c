use Rattle.kit_parts.proofs.Naming.{retracted_once_law}
use Rattle.kit_parts.proofs.queues.retracted_once.Goals as goal

pub returns : goal.returns
returns c = retracted_once_law
