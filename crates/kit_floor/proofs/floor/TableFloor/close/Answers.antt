use Rattle.std.proofs.Common.{◌≡◌, ◌<◌, ℕ, length, sym, ap, ◌∙◌, subst}
use mathlib.Core.Option.{some}
use lib.ListN.{get_elem?}
use Rattle.kit_pool.specs.SeatViews.{desk_of}
use Rattle.kit_pool.proofs.Owning.{own_at}
use Rattle.kit_floor.specs.Accounts.{count_of_federates}
use Rattle.kit_floor.specs.FloorViews.{place_of}
use Rattle.kit_floor.proofs.Closing.{gathered_has, place-inside, seats-count}
use Rattle.kit_floor.proofs.floor.TableFloor.close.Goals as goal

pub of-account-requires-clause-places : goal.of-account-requires-clause-places
of-account-requires-clause-places g c =
    let floor = c.args.self in
    let all = seats-count floor c.args.seats.items c.requires.seats ∙ c.requires.count in
    (λ i. count_of_federates (sym floor.laid.federates i) (c.gather-all.ensures.places i)) ∙ (all ∙ floor.laid.federates)

pub returns-clause-each : goal.returns-clause-each
returns-clause-each g c = λ k s e.
    let floor = c.args.self in
    let first = g.P.Protocol.first in
    let p = place_of first floor s in
    let t = gathered_has desk_of c.args.seats.items k s 0 p e (own_at (first floor.table.shared.key.opening.value) s.seat.me.0 s.own.there) in
    let inside = subst (λ (n : ℕ). p.own.number < n) floor.laid.federates (place-inside floor first s (c.requires.seats k s e)) in
    c.of-account.ensures.each t.0 p (ap (λ l. get_elem? l t.0) c.gather-all.ensures.places ∙ t.1) inside
