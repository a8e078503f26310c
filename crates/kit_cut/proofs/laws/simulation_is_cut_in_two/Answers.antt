use Rattle.kit_cut.proofs.Resuming.{cut_in_two}
use Rattle.kit_cut.proofs.laws.simulation_is_cut_in_two.Goals as goal

pub returns : goal.returns
returns c = cut_in_two
