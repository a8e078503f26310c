use Rattle.kit_parts.proofs.Reaching.{fronts_are_reached_law}
use Rattle.kit_parts.proofs.blocks.fronts_are_reached.Goals as goal

pub returns : goal.returns
returns c = fronts_are_reached_law
