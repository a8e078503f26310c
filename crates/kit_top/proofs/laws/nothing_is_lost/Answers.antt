use Rattle.kit_top.proofs.SavingLaws.{text_cut_in_two, rest_resumed}
use Rattle.kit_top.proofs.laws.nothing_is_lost.Goals as goal

pub returns-clause-text : goal.returns-clause-text
returns-clause-text c = text_cut_in_two c.simulation_is_cut_in_two.ensures

pub returns-clause-rest : goal.returns-clause-rest
returns-clause-rest c = rest_resumed c.simulation_is_cut_in_two.ensures
