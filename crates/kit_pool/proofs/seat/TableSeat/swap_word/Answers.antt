use Rattle.std.proofs.Common.{◌∙◌}
use Rattle.kit_pool.proofs.Owning.{own_after_step}
use Rattle.kit_pool.proofs.Stepping.{may_find, was_found, word_inside}
use Rattle.kit_pool.proofs.seat.TableSeat.swap_word.Goals as goal

pub swap-requires : goal.swap-requires
swap-requires g c =
    let s = c.args.self.now in
    let rule = g.P.Protocol.rule in
    let first = g.P.Protocol.first c.args.table.now.shared.key.opening.value in
    let front = g.F.Front.front in
    let next = g.E.Event.next in
    let deed = g.D.Plan.deed in (
      c.requires.seat.of_it,
      word_inside rule first front s.number s.federates s.buffers _ _ (c.requires.seat.as_many, c.requires.seat.as_wide) s.seat.me s.own next c.args.at c.args.address c.requires.at c.args.table.now.shared.table_id s.within c.requires.sized (λ _. 0) deed c.requires.plan,
      may_find rule first front s.number s.federates s.buffers _ _ (c.requires.seat.as_many, c.requires.seat.as_wide) s.seat.me s.own next c.args.at c.args.address c.requires.at s.within _ _ (λ _. 0) deed c.requires.plan,
    )

pub invariant_of-self : goal.invariant_of-self
invariant_of-self g c =
    let s = c.args.self.now in
    let rule = g.P.Protocol.rule in
    let first = g.P.Protocol.first c.args.table.now.shared.key.opening.value in
    let front = g.F.Front.front in
    let next = g.E.Event.next in
    let deed = g.D.Plan.deed in
    let told = was_found rule first front s.number s.federates s.buffers _ _ (c.requires.seat.as_many, c.requires.seat.as_wide) s.seat.me s.own next c.args.at c.args.address c.requires.at c.swap.new.seat.me deed c.swap.result (λ _. 0) c.requires.plan c.swap.ensures.2 in
    record { within = s.within; bare = told.1 ∙ s.bare; own = own_after_step first s.number s.federates s.buffers s.seat.me.0 s.own _ next _ told.0 }

pub returns-clause-place : goal.returns-clause-place
returns-clause-place g c =
    let s = c.args.self.now in
    let rule = g.P.Protocol.rule in
    let first = g.P.Protocol.first c.args.table.now.shared.key.opening.value in
    let front = g.F.Front.front in
    let next = g.E.Event.next in
    let deed = g.D.Plan.deed in
    let told = was_found rule first front s.number s.federates s.buffers _ _ (c.requires.seat.as_many, c.requires.seat.as_wide) s.seat.me s.own next c.args.at c.args.address c.requires.at c.swap.new.seat.me deed c.swap.result (λ _. 0) c.requires.plan c.swap.ensures.2 in told.0

pub returns-clause-told : goal.returns-clause-told
returns-clause-told g c =
    let s = c.args.self.now in
    let rule = g.P.Protocol.rule in
    let first = g.P.Protocol.first c.args.table.now.shared.key.opening.value in
    let front = g.F.Front.front in
    let next = g.E.Event.next in
    let deed = g.D.Plan.deed in
    let told = was_found rule first front s.number s.federates s.buffers _ _ (c.requires.seat.as_many, c.requires.seat.as_wide) s.seat.me s.own next c.args.at c.args.address c.requires.at c.swap.new.seat.me deed c.swap.result (λ _. 0) c.requires.plan c.swap.ensures.2 in told.2
