use Rattle.kit_laws.proofs.Ascending.{blocks_ascend_law}
use Rattle.kit_laws.proofs.laws.blocks_ascend.Goals as goal

pub returns : goal.returns
returns c = blocks_ascend_law
