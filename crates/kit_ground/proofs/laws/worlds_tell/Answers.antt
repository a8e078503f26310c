use Rattle.kit_ground.proofs.WorldFacts.{told_by_world}
use Rattle.kit_ground.proofs.laws.worlds_tell.Goals as goal

pub returns : goal.returns
returns g c = told_by_world g.P.Protocol.rule
