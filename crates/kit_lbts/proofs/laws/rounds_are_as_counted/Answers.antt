use Rattle.kit_lbts.proofs.Worlds.{one_is_current, colours_differ_by_one, contributions_are_faithful, old_copies_are_balanced, ended_runs_bound, bounds_never_fall, least_holds, none_is_newer}
use Rattle.kit_lbts.proofs.laws.rounds_are_as_counted.Goals as goal

pub returns-clause-current : goal.returns-clause-current
returns-clause-current c = one_is_current

pub returns-clause-colours : goal.returns-clause-colours
returns-clause-colours c = colours_differ_by_one

pub returns-clause-faithful : goal.returns-clause-faithful
returns-clause-faithful c = contributions_are_faithful

pub returns-clause-balance : goal.returns-clause-balance
returns-clause-balance c = old_copies_are_balanced

pub returns-clause-bounds : goal.returns-clause-bounds
returns-clause-bounds c = ended_runs_bound

pub returns-clause-rise : goal.returns-clause-rise
returns-clause-rise c = bounds_never_fall

pub returns-clause-least : goal.returns-clause-least
returns-clause-least c = least_holds

pub returns-clause-newest : goal.returns-clause-newest
returns-clause-newest c = none_is_newer
