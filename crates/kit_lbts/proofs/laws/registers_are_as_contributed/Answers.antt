use Rattle.kit_lbts.proofs.Worlds.{counts_are_of_sets, registers_show, learnt_is_true, known_bound_is_of_a_run, known_bound_bounds, grants_are_below, clocks_show, journals_are_lawful}
use Rattle.kit_lbts.proofs.laws.registers_are_as_contributed.Goals as goal

pub returns-clause-registers : goal.returns-clause-registers
returns-clause-registers c = registers_show

pub returns-clause-learnt : goal.returns-clause-learnt
returns-clause-learnt c = learnt_is_true

pub returns-clause-known : goal.returns-clause-known
returns-clause-known c = known_bound_is_of_a_run

pub returns-clause-bounds : goal.returns-clause-bounds
returns-clause-bounds c = known_bound_bounds

pub returns-clause-grants : goal.returns-clause-grants
returns-clause-grants c = grants_are_below

pub returns-clause-clocks : goal.returns-clause-clocks
returns-clause-clocks c = clocks_show

pub returns-clause-lawful : goal.returns-clause-lawful
returns-clause-lawful c = journals_are_lawful

pub returns-clause-counts : goal.returns-clause-counts
returns-clause-counts c = counts_are_of_sets
