use Rattle.kit_lbts.proofs.NextBlocks.{next_blocks_agree, spent_at_grants, spent_at_starts, outstanding_is_needed}
use Rattle.kit_lbts.proofs.laws.next_blocks_are_known.Goals as goal

pub returns-clause-next : goal.returns-clause-next
returns-clause-next c = next_blocks_agree

pub returns-clause-spent : goal.returns-clause-spent
returns-clause-spent c = spent_at_grants

pub returns-clause-outstanding : goal.returns-clause-outstanding
returns-clause-outstanding c = outstanding_is_needed

pub returns-clause-spent_first : goal.returns-clause-spent_first
returns-clause-spent_first c = spent_at_starts
