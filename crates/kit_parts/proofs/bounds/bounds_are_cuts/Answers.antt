use Rattle.kit_parts.proofs.Cutting.{bounds_are_cuts_law}
use Rattle.kit_parts.proofs.bounds.bounds_are_cuts.Goals as goal

pub returns : goal.returns
returns c = bounds_are_cuts_law
