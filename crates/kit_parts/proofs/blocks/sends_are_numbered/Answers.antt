use Rattle.kit_parts.proofs.Sending.{sends_are_numbered_law}
use Rattle.kit_parts.proofs.blocks.sends_are_numbered.Goals as goal

pub returns : goal.returns
returns c = sends_are_numbered_law
