use Rattle.kit_parts.proofs.Running.{ends_agree_law}
use Rattle.kit_parts.proofs.flows.ends_agree.Goals as goal

pub returns : goal.returns
returns c = ends_agree_law
