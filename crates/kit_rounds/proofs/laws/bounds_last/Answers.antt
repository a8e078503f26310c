use Rattle.kit_rounds.proofs.Knowing.{low_is_greatest, bounds_rise}
use Rattle.kit_rounds.proofs.laws.bounds_last.Goals as goal

pub returns-clause-greatest : goal.returns-clause-greatest
returns-clause-greatest c = low_is_greatest

pub returns-clause-rise : goal.returns-clause-rise
returns-clause-rise c = bounds_rise
