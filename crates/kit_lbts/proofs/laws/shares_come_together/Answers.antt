use Rattle.kit_lbts.proofs.Places.{sources_are_published}
use Rattle.kit_lbts.proofs.Gathering.{published_are_values, all_is_result}
use Rattle.kit_lbts.proofs.laws.shares_come_together.Goals as goal

pub returns-clause-sources : goal.returns-clause-sources
returns-clause-sources c = sources_are_published

pub returns-clause-published : goal.returns-clause-published
returns-clause-published c = published_are_values

pub returns-clause-result : goal.returns-clause-result
returns-clause-result c = all_is_result
