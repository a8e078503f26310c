use Rattle.kit_lbts.proofs.WithAgreement.{count_looks_agree, writes_agree, charges_agree, posts_agree}
use Rattle.kit_lbts.proofs.laws.messages_are_sent.Goals as goal

pub returns-clause-looks : goal.returns-clause-looks
returns-clause-looks c = count_looks_agree

pub returns-clause-writes : goal.returns-clause-writes
returns-clause-writes c = writes_agree

pub returns-clause-charges : goal.returns-clause-charges
returns-clause-charges c = charges_agree

pub returns-clause-posts : goal.returns-clause-posts
returns-clause-posts c = posts_agree
