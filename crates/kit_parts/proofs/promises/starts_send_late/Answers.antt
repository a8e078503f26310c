use Rattle.kit_parts.proofs.Promising.{starts_send_late_law}
use Rattle.kit_parts.proofs.promises.starts_send_late.Goals as goal

pub returns : goal.returns
returns c = starts_send_late_law
