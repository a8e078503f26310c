use Rattle.kit_parts.proofs.Merged.{one_merge_law}
use Rattle.kit_parts.proofs.merges.one_merge.Goals as goal

pub returns : goal.returns
returns c = one_merge_law
