use Rattle.std.proofs.Common.{sym, ◌∙◌}
use Rattle.kit_ground.proofs.PlainSteps.{federates}
use Rattle.kit_ground.proofs.plain.seat.PlainFloorGround.federates.Goals as goal

pub returns : goal.returns
returns g c = c.sizes.ensures.federates ∙ sym (federates g.P.Protocol.rule g.P.Protocol.first c.args.self.now c.sizes.ensures.ruled)
