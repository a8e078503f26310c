use Rattle.kit_parts.proofs.Itself.{nobody_sends_to_itself_law}
use Rattle.kit_parts.proofs.bounds.nobody_sends_to_itself.Goals as goal

pub returns : goal.returns
returns c = nobody_sends_to_itself_law
