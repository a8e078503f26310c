use Rattle.kit_parts.proofs.Agreement.{grants_agree_law}
use Rattle.kit_parts.proofs.bounds.grants_agree.Goals as goal

pub returns : goal.returns
returns c = grants_agree_law
