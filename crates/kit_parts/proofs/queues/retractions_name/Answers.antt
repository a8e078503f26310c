use Rattle.kit_parts.proofs.Naming.{retractions_name_law}
use Rattle.kit_parts.proofs.queues.retractions_name.Goals as goal

pub returns : goal.returns
returns c = retractions_name_law
