use Rattle.kit_lbts.proofs.WithAgreement.{releases_agree, settles_told}
use Rattle.kit_lbts.proofs.laws.buffers_are_released.Goals as goal

pub returns-clause-releases : goal.returns-clause-releases
returns-clause-releases c = releases_agree

pub returns-clause-first : goal.returns-clause-first
returns-clause-first c = settles_told
