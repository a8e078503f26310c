use Rattle.kit_regions.proofs.Told.{same_needs_law}
use Rattle.kit_regions.proofs.laws.same_needs.Goals as goal

pub returns : goal.returns
returns c = same_needs_law
