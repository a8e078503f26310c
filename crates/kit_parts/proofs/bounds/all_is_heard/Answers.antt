use Rattle.kit_parts.proofs.Safety.{all_is_heard_law}
use Rattle.kit_parts.proofs.bounds.all_is_heard.Goals as goal

pub returns : goal.returns
returns c = all_is_heard_law
