use Rattle.std.proofs.Common.{All, ◌∙◌, subst}
use Rattle.std.specs.Vec.Iter.{into_iter_items}
use Rattle.crossbeam_queue.specs.Passes.{view}
use Rattle.kit_deal.specs.Dealings.{Holds}
use Rattle.kit_deal.specs.Dealings.{IsOpen}
use Rattle.kit_deal.proofs.Moves.{gives_first, gave_first, others_are_open}
use Rattle.kit_deal.proofs.table.give_all.Goals as goal

pub give-requires-clause-holds : goal.give-requires-clause-holds
give-requires-clause-holds g c =
    let d = g.D.Deal in let v = view c.loop-item.token in
    gives_first d.number (IsOpen d.Fits d.has_ended) d.all v c.in-Some.item (into_iter_items c.next.new.self) (subst (λ xs. Holds d.number v xs) c.in-Some.ensures.steps.0 c.loop-item.invariant.3)

pub loop-item-preserved : goal.loop-item-preserved
loop-item-preserved g c =
    let d = g.D.Deal in let v = view c.loop-item.token in let x = c.in-Some.item in let ys = into_iter_items c.next.new.self in (
      c.give.ensures.queue,
      c.give.ensures.given.0 ∙ c.loop-item.invariant.1,
      others_are_open d.number (IsOpen d.Fits d.has_ended) d.all x ys (subst (λ xs. All (IsOpen d.Fits d.has_ended) xs) c.in-Some.ensures.steps.0 c.loop-item.invariant.2),
      gave_first d.number (IsOpen d.Fits d.has_ended) d.all v (view c.give.new.token) x ys (subst (λ xs. Holds d.number v xs) c.in-Some.ensures.steps.0 c.loop-item.invariant.3) c.give.ensures.given.1,
    )
