use Rattle.kit_courier.proofs.Openings.{opens_told}
use Rattle.letter_rounds.proofs.main.Goals as goal

pub new-requires-clause-rule : goal.new-requires-clause-rule
new-requires-clause-rule c = opens_told c.new-opening.result.value 16 4 c.new-opening.ensures
