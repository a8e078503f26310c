use Rattle.std.proofs.Common.{◌++◌, ap, ◌∙◌}
use Rattle.kit_pool.proofs.Joining.{joins, own_after_join}
use Rattle.kit_pool.proofs.seat.TableSeat.take_in_guest.Goals as goal

pub join_seat-requires : goal.join_seat-requires
join_seat-requires g c =
    let theirs = c.into_seat.ensures in
    (c.requires.seat, ap (λ s. s.table_id) theirs.seat ∙ c.requires.guest, ap (λ s. s.me.1) theirs.seat ∙ theirs.bare, c.requires.some, joins g.P.Protocol.rule _ _ _ _ _ _ _)

pub invariant_of-self : goal.invariant_of-self
invariant_of-self g c =
    let s = c.args.self.now in
    record { within = s.within; bare = ap (λ m. m.1) c.join_seat.ensures.2 ∙ s.bare; own = own_after_join s.number s.federates s.buffers s.seat.me.0 c.into_seat.result.me.0 _ (ap (λ m. m.0) c.join_seat.ensures.2) s.own }

pub returns-clause-places : goal.returns-clause-places
returns-clause-places g c = ap (λ m. m.0) c.join_seat.ensures.2 ∙ ap (λ s. c.args.self.now.seat.me.0 ++ s.me.0) c.into_seat.ensures.seat
