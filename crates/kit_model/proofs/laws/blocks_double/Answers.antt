use Rattle.kit_model.proofs.Widths.{width_is_greatest}
use Rattle.kit_model.proofs.Rows.{blocks_are_apart, everybody_is_in, first_block, next_block, partners_are_apart, partners_are_within, partners_are_mutual, last_block, blocks_of_six}
use Rattle.kit_model.proofs.laws.blocks_double.Goals as goal

pub returns-clause-greatest : goal.returns-clause-greatest
returns-clause-greatest c = width_is_greatest

pub returns-clause-apart : goal.returns-clause-apart
returns-clause-apart c = blocks_are_apart

pub returns-clause-in_one : goal.returns-clause-in_one
returns-clause-in_one c = everybody_is_in

pub returns-clause-first : goal.returns-clause-first
returns-clause-first c = first_block

pub returns-clause-next : goal.returns-clause-next
returns-clause-next c = next_block

pub returns-clause-partners : goal.returns-clause-partners
returns-clause-partners c = partners_are_apart

pub returns-clause-within : goal.returns-clause-within
returns-clause-within c = partners_are_within

pub returns-clause-mutual : goal.returns-clause-mutual
returns-clause-mutual c = partners_are_mutual

pub returns-clause-last : goal.returns-clause-last
returns-clause-last c = last_block

pub returns-clause-six : goal.returns-clause-six
returns-clause-six c = blocks_of_six
