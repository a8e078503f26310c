use Rattle.kit_laws.proofs.Counting.{few_grants_law}
use Rattle.kit_laws.proofs.laws.few_grants.Goals as goal

pub returns : goal.returns
returns c = few_grants_law
