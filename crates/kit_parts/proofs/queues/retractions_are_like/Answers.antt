use Rattle.kit_parts.proofs.Naming.{retractions_are_like_law}
use Rattle.kit_parts.proofs.queues.retractions_are_like.Goals as goal

pub returns : goal.returns
returns c = retractions_are_like_law
