use Rattle.std.proofs.Common.{◌≡◌, ℕ, ◌<◌, length, ap, ◌∙◌, arith, get_or-set_same}
use Rattle.std.specs.Prelude.{slice_index}
use Rattle.kit_courier.specs.Deliveries.{courier_first}
use Rattle.kit_pool.specs.Seating.{place_in}
use Rattle.kit_pool.proofs.Owning.{own_numbers}
use Rattle.letter_threads.proofs.watching.look_at.Goals as goal

pub returns-clause-found : goal.returns-clause-found
returns-clause-found c =
    let s = c.args.guest.now in
    let k = c.args.federate in
    let first : ℕ → _ = courier_first c.args.floor.now.table.shared.key.opening.value in
    let p = place_in first s.seat.me.0 in
    let own = own_numbers first s.number s.federates s.buffers s.seat.me.0 s.own in
    let world = c.clock.ensures.told.2 in
    let wide = world.sees.wide in
    let many = world.federates in
    let is = own.1 in
    let laid = c.requires.guest.as_many in
    let below = c.requires.federate in
    let inside : k < length p.client.known = omega (arith, wide, many, is, laid, below) in
    ap (λ d. slice_index (place_in first d).client.known k) c.clock.ensures.place ∙ get_or-set_same p.client.known k c.clock.result 0 inside
