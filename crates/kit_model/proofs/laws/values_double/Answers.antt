use Rattle.kit_model.proofs.Joining.{first_value, next_value, last_value, block_decides}
use Rattle.kit_model.proofs.laws.values_double.Goals as goal

pub returns-clause-first : goal.returns-clause-first
returns-clause-first c = first_value

pub returns-clause-next : goal.returns-clause-next
returns-clause-next c = next_value

pub returns-clause-last : goal.returns-clause-last
returns-clause-last c = last_value

pub returns-clause-decides : goal.returns-clause-decides
returns-clause-decides c = block_decides
