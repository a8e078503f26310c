use Rattle.kit_parts.proofs.Promising.{due_is_ahead_law}
use Rattle.kit_parts.proofs.promises.due_is_ahead.Goals as goal

pub returns : goal.returns
returns c = due_is_ahead_law
