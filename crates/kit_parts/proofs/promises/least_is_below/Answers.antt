use Rattle.kit_parts.proofs.Least.{least_is_below_law}
use Rattle.kit_parts.proofs.promises.least_is_below.Goals as goal

pub returns : goal.returns
returns c = least_is_below_law
