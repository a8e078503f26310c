use Rattle.std.proofs.Common.{◌≡◌, ◌<◌, ℕ, true, refl, sym, ap, ◌∙◌, subst, arith}
use Rattle.kit_ground.specs.declared.address.Address.TheVariants.{Register}
use Rattle.kit_ground.specs.Layout.{is_there}
use Rattle.kit_pool.specs.Seating.{place_in}
use Rattle.kit_pool.proofs.Owning.{own_numbers}
use Rattle.kit_floor.proofs.Closing.{clock_there}
use Rattle.kit_floor.proofs.floor.TableFloor.clock.Goals as goal

pub index-at-requires-clause-there : goal.index-at-requires-clause-there
index-at-requires-clause-there g c =
    let many = c.requires.guest.as_many in
    let is = c.federates.ensures in
    let below = c.requires.federate in
    clock_there c.federates.result c.buffers.result c.args.federate (omega (arith, many, is, below))

pub load-requires-clause-plan : goal.load-requires-clause-plan
load-requires-clause-plan g c =
    let s = c.args.guest.now in
    let first : ℕ → _ = g.P.Protocol.first c.args.self.now.table.shared.key.opening.value in
    let own = own_numbers first s.number s.federates s.buffers s.seat.me.0 s.own in
    let p = place_in first s.seat.me.0 in
    let is = own.1 in
    let many = c.requires.guest.as_many in
    let below = c.requires.federate in
    let inside : c.args.federate < p.own.federates = omega (arith, is, many, below) in
    let slot : 12 < 13 = omega arith in
    record { address = λ n. refl; looks = λ n. tt; allowed = λ n. ((inside, slot), refl); keeps = c.requires.rule }
