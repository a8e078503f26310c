use Rattle.std.proofs.Common.{◌∙◌}
use Rattle.kit_pool.specs.Seating.{others_of, place_in}
use Rattle.kit_pool.proofs.GuestStepping.{guests_after_step, may_look, was_seen, word_inside}
use Rattle.kit_pool.proofs.Owning.{desk_is, own_after_step}
use Rattle.kit_pool.proofs.guest.GuestSeat.load.Goals as goal

pub load-requires : goal.load-requires
load-requires g c =
    let s = c.args.self.now in
    let rule = g.P.Protocol.rule in
    let first = g.P.Protocol.first c.args.table.now.shared.key.opening.value in
    let front = g.F.Front.front in
    let next = g.E.Event.next in
    let deed = g.D.Plan.deed in (
      c.requires.seat.of_it,
      word_inside rule first front s.number s.federates s.buffers _ _ (c.requires.seat.as_many, c.requires.seat.as_wide) s.seat.me s.own s.within next c.args.at c.args.address c.requires.at deed c.requires.plan c.args.table.now.shared.table_id c.requires.sized,
      may_look rule first front s.number s.federates s.buffers _ _ (c.requires.seat.as_many, c.requires.seat.as_wide) s.seat.me s.own s.within next c.args.at c.args.address c.requires.at deed c.requires.plan _ _,
    )

pub invariant_of-self : goal.invariant_of-self
invariant_of-self g c =
    let s = c.args.self.now in
    let rule = g.P.Protocol.rule in
    let first = g.P.Protocol.first c.args.table.now.shared.key.opening.value in
    let front = g.F.Front.front in
    let next = g.E.Event.next in
    let deed = g.D.Plan.deed in
    let told = was_seen rule first front s.number s.federates s.buffers _ _ (c.requires.seat.as_many, c.requires.seat.as_wide) s.seat.me s.own s.within next c.args.at c.args.address c.requires.at deed c.requires.plan c.load.new.seat.me c.load.result c.load.ensures.2 in
    record {
      within = s.within;
      bare = told.1 ∙ s.bare;
      own = own_after_step first s.number s.federates s.buffers s.seat.me.0 s.own _ next _ told.0;
      guests = guests_after_step s.federates next (deed c.load.result) (place_in first s.seat.me.0) (others_of s.seat.me.0) s.seat.me.0 _ (desk_is first s.seat.me.0 s.own.there) told.0 s.guests;
    }

pub returns-clause-place : goal.returns-clause-place
returns-clause-place g c =
    let s = c.args.self.now in
    let rule = g.P.Protocol.rule in
    let first = g.P.Protocol.first c.args.table.now.shared.key.opening.value in
    let front = g.F.Front.front in
    let next = g.E.Event.next in
    let deed = g.D.Plan.deed in
    let told = was_seen rule first front s.number s.federates s.buffers _ _ (c.requires.seat.as_many, c.requires.seat.as_wide) s.seat.me s.own s.within next c.args.at c.args.address c.requires.at deed c.requires.plan c.load.new.seat.me c.load.result c.load.ensures.2 in told.0

pub returns-clause-told : goal.returns-clause-told
returns-clause-told g c =
    let s = c.args.self.now in
    let rule = g.P.Protocol.rule in
    let first = g.P.Protocol.first c.args.table.now.shared.key.opening.value in
    let front = g.F.Front.front in
    let next = g.E.Event.next in
    let deed = g.D.Plan.deed in
    let told = was_seen rule first front s.number s.federates s.buffers _ _ (c.requires.seat.as_many, c.requires.seat.as_wide) s.seat.me s.own s.within next c.args.at c.args.address c.requires.at deed c.requires.plan c.load.new.seat.me c.load.result c.load.ensures.2 in told.2
