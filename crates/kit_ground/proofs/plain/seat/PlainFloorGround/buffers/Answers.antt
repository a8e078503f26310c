use Rattle.std.proofs.Common.{sym, ◌∙◌}
use Rattle.kit_ground.proofs.PlainSteps.{buffers}
use Rattle.kit_ground.proofs.plain.seat.PlainFloorGround.buffers.Goals as goal

pub returns : goal.returns
returns g c = c.sizes.ensures.buffers ∙ sym (buffers g.P.Protocol.rule g.P.Protocol.first c.args.self.now c.sizes.ensures.ruled)
