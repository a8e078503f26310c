use Rattle.kit_laws.proofs.Needs.{outstanding_stays_law}
use Rattle.kit_laws.proofs.laws.outstanding_stays.Goals as goal

pub returns : goal.returns
returns c = outstanding_stays_law
