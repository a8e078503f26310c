use Rattle.kit_parts.proofs.Spending.{spent_among_law}
use Rattle.kit_parts.proofs.blocks.spent_among.Goals as goal

pub returns : goal.returns
returns c = spent_among_law
