use Rattle.kit_parts.proofs.Cutting.{lists_are_split_law}
use Rattle.kit_parts.proofs.bounds.lists_are_split.Goals as goal

pub returns : goal.returns
returns c = lists_are_split_law
