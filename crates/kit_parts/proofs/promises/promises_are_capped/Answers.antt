use Rattle.kit_parts.proofs.Promising.{promises_are_capped_law}
use Rattle.kit_parts.proofs.promises.promises_are_capped.Goals as goal

pub returns : goal.returns
returns c = promises_are_capped_law
