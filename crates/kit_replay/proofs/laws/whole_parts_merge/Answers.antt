use Rattle.kit_replay.proofs.Merged.{whole_parts_merge}
use Rattle.kit_replay.proofs.laws.whole_parts_merge.Goals as goal

pub returns : goal.returns
returns c = whole_parts_merge
