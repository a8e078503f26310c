use Rattle.kit_parts.proofs.Sending.{sends_grow_law}
use Rattle.kit_parts.proofs.blocks.sends_grow.Goals as goal

pub returns : goal.returns
returns c = sends_grow_law
