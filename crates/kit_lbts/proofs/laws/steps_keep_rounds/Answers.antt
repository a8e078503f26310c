use Rattle.kit_lbts.proofs.RoundSteps.{posts_keep_rounds, receipts_keep_rounds, rises_keep_rounds, contributions_keep_rounds}
use Rattle.kit_lbts.proofs.laws.steps_keep_rounds.Goals as goal

pub returns-clause-posts : goal.returns-clause-posts
returns-clause-posts c = posts_keep_rounds

pub returns-clause-receipts : goal.returns-clause-receipts
returns-clause-receipts c = receipts_keep_rounds

pub returns-clause-rises : goal.returns-clause-rises
returns-clause-rises c = rises_keep_rounds

pub returns-clause-contributions : goal.returns-clause-contributions
returns-clause-contributions c = contributions_keep_rounds
