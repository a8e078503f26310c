use Rattle.kit_lbts.proofs.AgreementEnds.{openings_agree, told_with_agreement}
use Rattle.kit_lbts.proofs.laws.agreement_begins.Goals as goal

pub returns-clause-first : goal.returns-clause-first
returns-clause-first c = openings_agree

pub returns-clause-told : goal.returns-clause-told
returns-clause-told c = told_with_agreement
