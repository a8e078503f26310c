use Rattle.kit_parts.proofs.Rising.{parts_rise_law}
use Rattle.kit_parts.proofs.blocks.parts_rise.Goals as goal

pub returns : goal.returns
returns c = parts_rise_law
