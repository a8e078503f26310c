use Rattle.kit_regions.proofs.Told.{same_spender_law}
use Rattle.kit_regions.proofs.laws.same_spender.Goals as goal

pub returns : goal.returns
returns c = same_spender_law
