use Rattle.kit_lbts.proofs.Agreeing.{starts_agree}
use Rattle.kit_lbts.proofs.GrantAgreement.{asides_agree}
use Rattle.kit_lbts.proofs.OtherSteps.{others_agree}
use Rattle.kit_lbts.proofs.laws.federates_agree.Goals as goal

pub returns-clause-starts : goal.returns-clause-starts
returns-clause-starts c = starts_agree

pub returns-clause-asides : goal.returns-clause-asides
returns-clause-asides c = asides_agree

pub returns-clause-others : goal.returns-clause-others
returns-clause-others c = others_agree
