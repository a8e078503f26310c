use Rattle.kit_parts.proofs.Carrying.{bounds_carry_law}
use Rattle.kit_parts.proofs.bounds.bounds_carry.Goals as goal

pub returns : goal.returns
returns c = bounds_carry_law
