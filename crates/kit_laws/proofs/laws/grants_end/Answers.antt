use Rattle.kit_laws.proofs.Rising.{simulated_done}
use Rattle.kit_laws.proofs.laws.grants_end.Goals as goal

pub returns : goal.returns
returns c = simulated_done
