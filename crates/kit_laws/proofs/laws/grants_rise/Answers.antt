use Rattle.kit_laws.proofs.OneRun.{grants_rise_law}
use Rattle.kit_laws.proofs.laws.grants_rise.Goals as goal

pub returns : goal.returns
returns c = grants_rise_law
