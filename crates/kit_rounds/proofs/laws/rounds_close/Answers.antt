use Rattle.kit_rounds.proofs.Closing.{full_rounds_close}
use Rattle.kit_rounds.proofs.Balances.{full_round_balances}
use Rattle.kit_rounds.proofs.Opening.{equal_sums_bound}
use Rattle.kit_rounds.proofs.laws.rounds_close.Goals as goal

pub returns-clause-closes : goal.returns-clause-closes
returns-clause-closes c = full_rounds_close

pub returns-clause-balances : goal.returns-clause-balances
returns-clause-balances c = full_round_balances

pub returns-clause-bounds : goal.returns-clause-bounds
returns-clause-bounds c = equal_sums_bound
