use Rattle.kit_rounds.proofs.Ways.{way_balances}
use Rattle.kit_rounds.proofs.Leasts.{old_copies_balance}
use Rattle.kit_rounds.proofs.laws.copies_balance.Goals as goal

pub returns-clause-way : goal.returns-clause-way
returns-clause-way c = way_balances

pub returns-clause-old : goal.returns-clause-old
returns-clause-old c = old_copies_balance
