use Rattle.std.proofs.Common.{[], refl, ◌∙◌}
use Rattle.kit_pool.specs.Dealing.{IsOf}
use Rattle.kit_pool.specs.SeatViews.{desk_of}
use Rattle.kit_pool.proofs.SeatLists.{at_end, each_left, gathered_more}
use Rattle.kit_pool.proofs.dealing.gather.Goals as goal

pub loop-seat-init : goal.loop-seat-init
loop-seat-init g c =
    let is = c.in-Some.ensures.items in
    let table = c.args.table.now.shared in (
      at_end (λ s. IsOf table s) _ _ _ is c.requires.of_it,
      gathered_more desk_of _ _ _ [] _ is refl,
      each_left (λ k s. IsOf table s) _ _ _ is c.requires.of_it,
    )

pub take_in-requires-clause-other : goal.take_in-requires-clause-other
take_in-requires-clause-other g c =
    let i = c.loop-seat.invariant in
    let table = c.args.table.now.shared in at_end (λ s. IsOf table s) _ _ _ c.in-Some-pop.ensures.items i.2

pub loop-seat-preserved : goal.loop-seat-preserved
loop-seat-preserved g c =
    let i = c.loop-seat.invariant in
    let is = c.in-Some-pop.ensures.items in
    let table = c.args.table.now.shared in (
      c.take_in.ensures.same.of_it ∙ i.0,
      gathered_more desk_of _ _ _ _ _ is c.take_in.ensures.places ∙ i.1,
      each_left (λ k s. IsOf table s) _ _ _ is i.2,
    )
