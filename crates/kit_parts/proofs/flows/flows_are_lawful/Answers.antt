use Rattle.kit_parts.proofs.Running.{flows_are_lawful_law}
use Rattle.kit_parts.proofs.flows.flows_are_lawful.Goals as goal

pub returns : goal.returns
returns c = flows_are_lawful_law
