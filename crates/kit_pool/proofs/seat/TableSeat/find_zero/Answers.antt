use Rattle.std.proofs.Common.{refl, ap, ◌∙◌}
use Rattle.kit_pool.proofs.Stepping.{may_find_zero, own_after_look, was_other, was_zero, word_inside}
use Rattle.kit_pool.proofs.seat.TableSeat.find_zero.Goals as goal

pub load-requires : goal.load-requires
load-requires g c =
    let s = c.args.self.now in
    let rule = g.P.Protocol.rule in
    let first = g.P.Protocol.first c.args.table.now.shared.key.opening.value in
    let front = g.F.Front.front in
    let next = g.E.Event.next in
    let deed = g.D.Plan.deed in (
      c.requires.seat.of_it,
      word_inside rule first front s.number s.federates s.buffers _ _ (c.requires.seat.as_many, c.requires.seat.as_wide) s.seat.me s.own next c.args.at c.args.address c.requires.at c.args.table.now.shared.table_id s.within c.requires.sized (λ _. 0) deed c.requires.plan,
      may_find_zero rule first front s.number s.federates s.buffers _ _ (c.requires.seat.as_many, c.requires.seat.as_wide) s.seat.me s.own next c.args.at c.args.address c.requires.at s.within _ _ (λ _. 0) deed c.requires.plan refl,
    )

pub invariant_of-self : goal.invariant_of-self
invariant_of-self g c =
    let s = c.args.self.now in
    let rule = g.P.Protocol.rule in
    let first = g.P.Protocol.first c.args.table.now.shared.key.opening.value in
    let front = g.F.Front.front in
    let next = g.E.Event.next in
    let deed = g.D.Plan.deed in
    let told = own_after_look rule first front s.number s.federates s.buffers _ _ (c.requires.seat.as_many, c.requires.seat.as_wide) s.seat.me s.own next c.args.at c.args.address c.requires.at c.load.new.seat.me deed c.load.result (λ _. 0) c.requires.plan c.load.ensures.2 in
    record { within = s.within; bare = told.1 ∙ s.bare; own = told.0 }

pub returns-clause-step : goal.returns-clause-step
returns-clause-step g c = λ e.
    let s = c.args.self.now in
    let rule = g.P.Protocol.rule in
    let first = g.P.Protocol.first c.args.table.now.shared.key.opening.value in
    let front = g.F.Front.front in
    let next = g.E.Event.next in
    let deed = g.D.Plan.deed in
    let told = was_zero rule first front s.number s.federates s.buffers _ _ (c.requires.seat.as_many, c.requires.seat.as_wide) s.seat.me s.own next c.args.at c.args.address c.requires.at c.load.new.seat.me deed c.load.result (λ _. 0) c.requires.plan e c.load.ensures.2 in told.0

pub returns-clause-told : goal.returns-clause-told
returns-clause-told g c = λ e.
    let s = c.args.self.now in
    let rule = g.P.Protocol.rule in
    let first = g.P.Protocol.first c.args.table.now.shared.key.opening.value in
    let front = g.F.Front.front in
    let next = g.E.Event.next in
    let deed = g.D.Plan.deed in
    let told = was_zero rule first front s.number s.federates s.buffers _ _ (c.requires.seat.as_many, c.requires.seat.as_wide) s.seat.me s.own next c.args.at c.args.address c.requires.at c.load.new.seat.me deed c.load.result (λ _. 0) c.requires.plan e c.load.ensures.2 in told.2

pub returns-clause-no_step : goal.returns-clause-no_step
returns-clause-no_step g c = λ e.
    let s = c.args.self.now in
    let rule = g.P.Protocol.rule in
    let first = g.P.Protocol.first c.args.table.now.shared.key.opening.value in
    let front = g.F.Front.front in
    let next = g.E.Event.next in
    let deed = g.D.Plan.deed in
    ap (λ m. m.0) (was_other rule first front s.number s.federates s.buffers _ _ (c.requires.seat.as_many, c.requires.seat.as_wide) s.seat.me s.own next c.args.at c.args.address c.requires.at c.load.new.seat.me deed c.load.result e c.load.ensures.2)
