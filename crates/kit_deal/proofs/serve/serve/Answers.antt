use Rattle.crossbeam_queue.specs.Passes.{view}
use Rattle.kit_deal.specs.Dealings.{IsOpen}
use Rattle.kit_deal.proofs.Moves.{takes, settles, is_room, may_give}
use Rattle.kit_deal.proofs.serve.serve.Goals as goal

pub pop_as-requires-clause-rule : goal.pop_as-requires-clause-rule
pop_as-requires-clause-rule g c =
    let d = g.D.Deal in (takes d.number (IsOpen d.Fits d.has_ended) d.all _ (view c.loop.token) c.loop.invariant.0.some_part, settles d.number (IsOpen d.Fits d.has_ended) d.all _ (view c.loop.token))

pub keep-requires : goal.keep-requires
keep-requires g c =
    let d = g.D.Deal in let took = c.in-Some-pop_as.ensures.rule in
    is_room d.number (IsOpen d.Fits d.has_ended) d.all (view c.loop.token) (view c.pop_as.new.pass) c.loop.kept.items (d.number c.in-Some-pop_as.item) _ took.0 c.loop.invariant.3.held took.2 c.loop.invariant.2

pub give-requires-clause-holds : goal.give-requires-clause-holds
give-requires-clause-holds g c =
    let d = g.D.Deal in may_give d.number (IsOpen d.Fits d.has_ended) d.all (view c.loop.token) (view c.pop_as.new.pass) c.in-Some-pop_as.item c.work-item.result.0 c.in-Some-pop_as.ensures.rule.0 c.work-item.ensures.number
