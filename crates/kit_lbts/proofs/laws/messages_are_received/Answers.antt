use Rattle.kit_lbts.proofs.WithAgreement.{collects_agree, heads_agree, bodies_agree, bodies_told}
use Rattle.kit_lbts.proofs.laws.messages_are_received.Goals as goal

pub returns-clause-collects : goal.returns-clause-collects
returns-clause-collects c = collects_agree

pub returns-clause-heads : goal.returns-clause-heads
returns-clause-heads c = heads_agree

pub returns-clause-bodies : goal.returns-clause-bodies
returns-clause-bodies c = bodies_agree

pub returns-clause-told : goal.returns-clause-told
returns-clause-told c = bodies_told
