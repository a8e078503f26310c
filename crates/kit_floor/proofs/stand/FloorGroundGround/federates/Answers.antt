use Rattle.std.proofs.Common.{sym, ◌∙◌}
use Rattle.kit_pool.proofs.Owning.{own_numbers}
use Rattle.kit_floor.proofs.stand.FloorGroundGround.federates.Goals as goal

pub returns : goal.returns
returns g c = let s = c.args.self.now.seat in c.federates.ensures ∙ sym (own_numbers (g.P.Protocol.first c.args.self.now.floor.now.table.shared.key.opening.value) s.number s.federates s.buffers s.seat.me.0 s.own).1
