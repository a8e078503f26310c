use Rattle.kit_parts.proofs.Reaching.{fronts_send_law}
use Rattle.kit_parts.proofs.blocks.fronts_send.Goals as goal

pub returns : goal.returns
returns c = fronts_send_law
