use Rattle.kit_parts.proofs.Merging.{parts_are_part_law}
use Rattle.kit_parts.proofs.merges.parts_are_part.Goals as goal

pub returns : goal.returns
returns c = parts_are_part_law
