use Rattle.kit_parts.proofs.Running.{flows_agree_law}
use Rattle.kit_parts.proofs.flows.flows_agree.Goals as goal

pub returns : goal.returns
returns c = flows_agree_law
