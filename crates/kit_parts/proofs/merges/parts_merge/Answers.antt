use Rattle.kit_parts.proofs.Merged.{parts_merge_law}
use Rattle.kit_parts.proofs.merges.parts_merge.Goals as goal

pub returns : goal.returns
returns c = parts_merge_law
