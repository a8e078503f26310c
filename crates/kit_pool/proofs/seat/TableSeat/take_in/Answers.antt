use Rattle.std.proofs.Common.{ap, ◌∙◌}
use Rattle.kit_pool.proofs.Joining.{joins, own_after_join}
use Rattle.kit_pool.proofs.seat.TableSeat.take_in.Goals as goal

pub join_seat-requires : goal.join_seat-requires
join_seat-requires g c = (c.requires.seat, c.requires.other, c.args.other.bare, c.requires.some, joins g.P.Protocol.rule _ _ _ _ _ _ _)

pub invariant_of-self : goal.invariant_of-self
invariant_of-self g c =
    let s = c.args.self.now in
    record { within = s.within; bare = ap (λ m. m.1) c.join_seat.ensures.2 ∙ s.bare; own = own_after_join s.number s.federates s.buffers s.seat.me.0 c.args.other.seat.me.0 _ (ap (λ m. m.0) c.join_seat.ensures.2) s.own }
