use Rattle.kit_parts.proofs.Promising.{grants_send_late_law}
use Rattle.kit_parts.proofs.promises.grants_send_late.Goals as goal

pub returns : goal.returns
returns c = grants_send_late_law
