use Rattle.std.proofs.Common.{[], ◌∷◌, ap, arith, length, length-append}
use Rattle.kit_pool.specs.SeatViews.{IsNewSeatOn}
use Rattle.kit_pool.proofs.SeatLists.{each_pushed}
use Rattle.kit_pool.proofs.dealing.deal.Goals as goal

pub loop-number-preserved : goal.loop-number-preserved
loop-number-preserved g c =
    let i = c.loop-number.invariant in
    let is = c.in_ok-push.ensures.items in
    let longer = ap length is in (
      c.part-seat.ensures.rest,
      omega (arith, longer, length-append c.loop-number.seats.items (c.part-seat.result ∷ []), i.1),
      each_pushed (λ j s. IsNewSeatOn g.P.Protocol.first c.args.table.now.shared j s) _ _ _ _ is i.1 i.2 c.part-seat.ensures.seat,
    )
