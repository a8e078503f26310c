use Rattle.kit_parts.proofs.Newness.{what_waits_is_new_law}
use Rattle.kit_parts.proofs.bounds.what_waits_is_new.Goals as goal

pub returns : goal.returns
returns c = what_waits_is_new_law
