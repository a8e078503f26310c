use Rattle.kit_parts.proofs.Running.{flows_keep_bounds_law}
use Rattle.kit_parts.proofs.flows.flows_keep_bounds.Goals as goal

pub returns : goal.returns
returns c = flows_keep_bounds_law
