use Rattle.kit_model.proofs.Joining.{one_share, one_more_share, groups_join_law, groups_decide, groups_stay_within}
use Rattle.kit_model.proofs.laws.groups_join.Goals as goal

pub returns-clause-one : goal.returns-clause-one
returns-clause-one c = one_share

pub returns-clause-more : goal.returns-clause-more
returns-clause-more c = one_more_share

pub returns-clause-union : goal.returns-clause-union
returns-clause-union c = groups_join_law

pub returns-clause-decide : goal.returns-clause-decide
returns-clause-decide c = groups_decide

pub returns-clause-within : goal.returns-clause-within
returns-clause-within c = groups_stay_within
