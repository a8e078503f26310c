use Rattle.kit_rounds.proofs.Opening.{new_ledgers_keep}
use Rattle.kit_rounds.proofs.PostSteps.{posts_keep}
use Rattle.kit_rounds.proofs.ReceiptSteps.{receipts_keep}
use Rattle.kit_rounds.proofs.Contributing.{contributions_keep}
use Rattle.kit_rounds.proofs.Knowing.{next_contributions_keep}
use Rattle.kit_rounds.proofs.RiseSteps.{rises_keep}
use Rattle.kit_rounds.proofs.laws.rounds_keep.Goals as goal

pub returns-clause-first : goal.returns-clause-first
returns-clause-first c = new_ledgers_keep

pub returns-clause-posts : goal.returns-clause-posts
returns-clause-posts c = posts_keep

pub returns-clause-receipts : goal.returns-clause-receipts
returns-clause-receipts c = receipts_keep

pub returns-clause-contributions : goal.returns-clause-contributions
returns-clause-contributions c = contributions_keep

pub returns-clause-next : goal.returns-clause-next
returns-clause-next c = next_contributions_keep

pub returns-clause-rises : goal.returns-clause-rises
returns-clause-rises c = rises_keep
