use Rattle.kit_regions.proofs.Receivers.{receivers_overlap_law}
use Rattle.kit_regions.proofs.laws.receivers_overlap.Goals as goal

pub returns : goal.returns
returns c = receivers_overlap_law
