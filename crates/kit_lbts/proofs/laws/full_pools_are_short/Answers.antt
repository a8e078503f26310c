use Rattle.kit_lbts.proofs.Shortage.{full_pools_are_short}
use Rattle.kit_lbts.proofs.laws.full_pools_are_short.Goals as goal

pub returns : goal.returns
returns c = full_pools_are_short
