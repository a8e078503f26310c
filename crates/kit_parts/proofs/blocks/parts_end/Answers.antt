use Rattle.kit_parts.proofs.Ends.{parts_end_law}
use Rattle.kit_parts.proofs.blocks.parts_end.Goals as goal

pub returns : goal.returns
returns c = parts_end_law
