use Rattle.std.proofs.Common.{◌+◌, ℕ, [], ◌∷◌, refl, sym, ap, subst, arith, length, length-append}
use Rattle.kit_pool.specs.GuestViews.{IsNewGuestOn}
use Rattle.kit_pool.proofs.SeatLists.{each_pushed}
use Rattle.kit_pool.proofs.dealing.deal_guests.Goals as goal

pub loop-number-preserved : goal.loop-number-preserved
loop-number-preserved g c =
    let i = c.loop-number.invariant in
    let n = c.args.federates in
    let is = c.in_ok-push.ensures.items in
    let longer = ap length is in
    let one = subst (λ (k : ℕ). IsNewGuestOn g.P.Protocol.first c.args.table.now.shared k c.part-guest.result) (sym i.1) c.part-guest.ensures.seat in (
      c.part-guest.ensures.rest,
      omega (arith, longer, length-append c.loop-number.guests.items (c.part-guest.result ∷ []), i.1),
      each_pushed (λ j s. IsNewGuestOn g.P.Protocol.first c.args.table.now.shared (n + j) s) _ _ _ _ is refl i.2 one,
    )
