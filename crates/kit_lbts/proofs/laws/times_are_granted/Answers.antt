use Rattle.kit_lbts.proofs.GrantAgreement.{grants_agree}
use Rattle.kit_lbts.proofs.laws.times_are_granted.Goals as goal

pub returns : goal.returns
returns c = grants_agree
