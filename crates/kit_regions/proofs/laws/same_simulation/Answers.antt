use Rattle.kit_regions.proofs.Same.{same_simulation_law}
use Rattle.kit_regions.proofs.laws.same_simulation.Goals as goal

pub returns : goal.returns
returns c = same_simulation_law
