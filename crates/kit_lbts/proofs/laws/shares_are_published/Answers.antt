use Rattle.kit_lbts.proofs.WithAgreement.{contributions_agree, values_agree, backs_agree}
use Rattle.kit_lbts.proofs.laws.shares_are_published.Goals as goal

pub returns-clause-contributions : goal.returns-clause-contributions
returns-clause-contributions c = contributions_agree

pub returns-clause-values : goal.returns-clause-values
returns-clause-values c = values_agree

pub returns-clause-backs : goal.returns-clause-backs
returns-clause-backs c = backs_agree
