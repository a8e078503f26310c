use Rattle.kit_parts.proofs.Newness.{what_comes_is_new_law}
use Rattle.kit_parts.proofs.bounds.what_comes_is_new.Goals as goal

pub returns : goal.returns
returns c = what_comes_is_new_law
