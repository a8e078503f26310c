use Rattle.kit_parts.proofs.Promising.{steps_send_late_law}
use Rattle.kit_parts.proofs.promises.steps_send_late.Goals as goal

pub returns : goal.returns
returns c = steps_send_late_law
