use Rattle.kit_rounds.proofs.Knowing.{opens_next, opens_at_first, opens_with_result}
use Rattle.kit_rounds.proofs.laws.rounds_open.Goals as goal

pub returns-clause-next : goal.returns-clause-next
returns-clause-next c = opens_next

pub returns-clause-first : goal.returns-clause-first
returns-clause-first c = opens_at_first

pub returns-clause-result : goal.returns-clause-result
returns-clause-result c = opens_with_result
