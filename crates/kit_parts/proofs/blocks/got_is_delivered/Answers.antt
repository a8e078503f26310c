use Rattle.kit_parts.proofs.Sending.{got_is_delivered_law}
use Rattle.kit_parts.proofs.blocks.got_is_delivered.Goals as goal

pub returns : goal.returns
returns c = got_is_delivered_law
