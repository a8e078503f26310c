use Rattle.kit_laws.proofs.OneRun.{last_grants_law}
use Rattle.kit_laws.proofs.laws.last_grants.Goals as goal

pub returns : goal.returns
returns c = last_grants_law
