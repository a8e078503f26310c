use Rattle.kit_regions.proofs.Fitness.{plans_make_federations_law}
use Rattle.kit_regions.proofs.laws.plans_make_federations.Goals as goal

pub returns : goal.returns
returns c = plans_make_federations_law
