use Rattle.kit_ground.proofs.FloorSteps.{floored_after}
use Rattle.kit_ground.proofs.LawSteps.{keeps_both, keeps_guests}
use Rattle.kit_ground.proofs.laws.steps_keep_the_rules.Goals as goal

pub returns-clause-floor : goal.returns-clause-floor
returns-clause-floor g c = floored_after

pub returns-clause-both : goal.returns-clause-both
returns-clause-both g c = keeps_both g.P.Protocol.rule

pub returns-clause-guests : goal.returns-clause-guests
returns-clause-guests g c = keeps_guests g.P.Protocol.rule
