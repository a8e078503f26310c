use Rattle.kit_parts.proofs.Ends.{nothing_comes_late_law}
use Rattle.kit_parts.proofs.blocks.nothing_comes_late.Goals as goal

pub returns : goal.returns
returns c = nothing_comes_late_law
