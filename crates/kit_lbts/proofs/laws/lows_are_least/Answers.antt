use Rattle.kit_lbts.proofs.Lows.{lows_are_least}
use Rattle.kit_lbts.proofs.laws.lows_are_least.Goals as goal

pub returns : goal.returns
returns c = lows_are_least
