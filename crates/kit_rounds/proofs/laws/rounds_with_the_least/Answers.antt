use Rattle.kit_rounds.proofs.Leasts.{least_is_greatest, least_is_kept, least_is_all}
use Rattle.kit_rounds.proofs.laws.rounds_with_the_least.Goals as goal

pub returns-clause-greatest : goal.returns-clause-greatest
returns-clause-greatest c = least_is_greatest

pub returns-clause-kept : goal.returns-clause-kept
returns-clause-kept c = least_is_kept

pub returns-clause-all : goal.returns-clause-all
returns-clause-all c = least_is_all
