use Rattle.kit_parts.proofs.Needing.{need_covers_law}
use Rattle.kit_parts.proofs.blocks.need_covers.Goals as goal

pub returns : goal.returns
returns c = need_covers_law
