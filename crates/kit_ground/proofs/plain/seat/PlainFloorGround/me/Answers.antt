use Rattle.std.proofs.Common.{sym, ◌∙◌}
use Rattle.kit_ground.proofs.PlainSteps.{number}
use Rattle.kit_ground.proofs.plain.seat.PlainFloorGround.me.Goals as goal

pub returns : goal.returns
returns g c = c.sizes.ensures.seated ∙ sym (number g.P.Protocol.rule g.P.Protocol.first c.args.self.now c.sizes.ensures.ruled)
