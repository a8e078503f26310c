use Rattle.kit_top.proofs.RegionLaws.{plans_are_simulated_law}
use Rattle.kit_top.proofs.laws.plans_are_simulated.Goals as goal

pub returns : goal.returns
returns c = plans_are_simulated_law
