use Rattle.kit_rounds.proofs.Knowing.{others_are_unreceived, rest_is_unreceived, steps_in_lists}
use Rattle.kit_rounds.proofs.laws.lists_serve.Goals as goal

pub returns-clause-others : goal.returns-clause-others
returns-clause-others c = others_are_unreceived

pub returns-clause-rest : goal.returns-clause-rest
returns-clause-rest c = rest_is_unreceived

pub returns-clause-steps : goal.returns-clause-steps
returns-clause-steps c = steps_in_lists
