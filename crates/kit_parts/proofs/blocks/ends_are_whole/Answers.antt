use Rattle.kit_parts.proofs.Ends.{ends_are_whole_law}
use Rattle.kit_parts.proofs.blocks.ends_are_whole.Goals as goal

pub returns : goal.returns
returns c = ends_are_whole_law
