use Rattle.kit_laws.proofs.OneRun.{one_simulation_law}
use Rattle.kit_laws.proofs.laws.one_simulation.Goals as goal

pub returns : goal.returns
returns c = one_simulation_law
