use Rattle.kit_parts.proofs.Safety.{nobody_sends_below_law}
use Rattle.kit_parts.proofs.bounds.nobody_sends_below.Goals as goal

pub returns : goal.returns
returns c = nobody_sends_below_law
