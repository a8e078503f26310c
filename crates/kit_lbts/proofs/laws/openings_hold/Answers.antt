use Rattle.kit_lbts.proofs.Openings.{openings_hold}
use Rattle.kit_lbts.proofs.laws.openings_hold.Goals as goal

pub returns : goal.returns
returns c = openings_hold
