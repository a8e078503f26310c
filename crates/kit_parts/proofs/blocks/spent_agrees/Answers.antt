use Rattle.kit_parts.proofs.Spending.{spent_agrees_law}
use Rattle.kit_parts.proofs.blocks.spent_agrees.Goals as goal

pub returns : goal.returns
returns c = spent_agrees_law
