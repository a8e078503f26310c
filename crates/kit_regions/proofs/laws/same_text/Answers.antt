use Rattle.kit_regions.proofs.Told.{same_text_law}
use Rattle.kit_regions.proofs.laws.same_text.Goals as goal

pub returns : goal.returns
returns c = same_text_law
