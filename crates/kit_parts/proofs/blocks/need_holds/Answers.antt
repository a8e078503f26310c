use Rattle.kit_parts.proofs.Needing.{need_holds_law}
use Rattle.kit_parts.proofs.blocks.need_holds.Goals as goal

pub returns : goal.returns
returns c = need_holds_law
