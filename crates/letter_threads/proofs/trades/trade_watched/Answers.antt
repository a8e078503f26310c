use Rattle.std.proofs.Common.{◌≤◌, ◌<◌, arith}
use Rattle.kit_courier.proofs.Openings.{opens_told}
use Rattle.kit_pool.proofs.SeatLists.{at_end}
use Rattle.kit_floor.specs.GuestViews.{IsGuestOf}
use Rattle.letter_threads.proofs.Guests.{guests_open}
use Rattle.letter_threads.proofs.trades.trade_watched.Goals as goal

pub lay_watched-requires-clause-rule : goal.lay_watched-requires-clause-rule
lay_watched-requires-clause-rule g c = opens_told c.new-about.result.value 2 65 c.new-about.ensures

pub lay_watched-requires-clause-sees : goal.lay_watched-requires-clause-sees
lay_watched-requires-clause-sees g c = guests_open c.new-about.result.value 2 65 1 c.new-about.ensures

pub join-all-requires-after_bounds : goal.join-all-requires-after_bounds
join-all-requires-after_bounds g c κs within =
    let floor = c.in_ok-floor.floor in
    let laid = c.in_ok-floor.ensures in
    let many = laid.federates in
    let wide = laid.buffers in
    let guest = at_end (λ s. IsGuestOf floor s) _ _ _ c.in-Some.ensures.items (λ k s e. (laid.guests k s e).seat) in
    ((guest, many), (omega (arith, many), (omega (arith, wide), (laid.seats, record { shared = c.type_bounds.sync-R.shared }))))
