use Rattle.std.proofs.Common.{◌∙◌}
use Rattle.kit_pool.specs.Dealing.{GuestIsOf}
use Rattle.kit_pool.specs.GuestViews.{guest_desk_of}
use Rattle.kit_pool.proofs.SeatLists.{at_end, each_left, gathered_more}
use Rattle.kit_pool.proofs.dealing.gather_guests.Goals as goal

pub take_in_guest-requires-clause-guest : goal.take_in_guest-requires-clause-guest
take_in_guest-requires-clause-guest g c =
    let i = c.loop-guest.invariant in
    let table = c.args.table.now.shared in at_end (λ s. GuestIsOf table s) _ _ _ c.in-Some.ensures.items i.2

pub loop-guest-preserved : goal.loop-guest-preserved
loop-guest-preserved g c =
    let i = c.loop-guest.invariant in
    let is = c.in-Some.ensures.items in
    let table = c.args.table.now.shared in (
      c.take_in_guest.ensures.same.of_it ∙ i.0,
      gathered_more guest_desk_of _ _ _ _ _ is c.take_in_guest.ensures.places ∙ i.1,
      each_left (λ k s. GuestIsOf table s) _ _ _ is i.2,
    )
