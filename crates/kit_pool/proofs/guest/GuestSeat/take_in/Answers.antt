use Rattle.std.proofs.Common.{◌++◌, sym, ap, ◌∙◌, subst}
use Rattle.kit_pool.specs.Watching.{AreGuests}
use Rattle.kit_pool.proofs.GuestStepping.{guests_after_join}
use Rattle.kit_pool.proofs.Joining.{joins, own_after_join}
use Rattle.kit_pool.proofs.guest.GuestSeat.take_in.Goals as goal

pub join_seat-requires : goal.join_seat-requires
join_seat-requires g c =
    let theirs = c.into_seat.ensures in
    (c.requires.seat.of_it, ap (λ s. s.table_id) theirs.seat ∙ c.requires.other.of_it, ap (λ s. s.me.1) theirs.seat ∙ theirs.bare, c.requires.some, joins g.P.Protocol.rule _ _ _ _ _ _ _)

pub invariant_of-self : goal.invariant_of-self
invariant_of-self g c =
    let s = c.args.self.now in
    let other = c.args.other in
    let is = ap (λ m. m.0) c.join_seat.ensures.2 ∙ ap (λ t. s.seat.me.0 ++ t.me.0) c.into_seat.ensures.seat in
    let many = sym c.requires.other.as_many ∙ c.requires.seat.as_many in
    record {
      within = s.within;
      bare = ap (λ m. m.1) c.join_seat.ensures.2 ∙ s.bare;
      own = own_after_join s.number s.federates s.buffers s.seat.me.0 other.seat.me.0 _ is s.own;
      guests = guests_after_join s.federates s.seat.me.0 other.seat.me.0 _ is s.guests (subst (λ n. AreGuests n other.seat.me.0) many other.guests);
    }

pub returns-clause-places : goal.returns-clause-places
returns-clause-places g c = ap (λ m. m.0) c.join_seat.ensures.2 ∙ ap (λ s. c.args.self.now.seat.me.0 ++ s.me.0) c.into_seat.ensures.seat
