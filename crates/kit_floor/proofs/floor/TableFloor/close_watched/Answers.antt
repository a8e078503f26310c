use Rattle.std.proofs.Common.{◌≡◌, ◌<◌, ◌≤◌, ◌+◌, ◌++◌, ℕ, length, map, sym, ap, ◌∙◌, subst, arith}
use mathlib.Core.Option.{some}
use lib.ListN.{get_elem?}
use Rattle.atomic_table.proofs.Lists.{at_longer}
use Rattle.kit_pool.specs.GuestViews.{guest_desk_of}
use Rattle.kit_pool.specs.SeatViews.{desk_of}
use Rattle.kit_pool.specs.Seats.{desks_taken_in}
use Rattle.kit_pool.proofs.Behind.{at_behind}
use Rattle.kit_pool.proofs.Owning.{own_at}
use Rattle.kit_floor.specs.Accounts.{count_of_federates}
use Rattle.kit_floor.specs.FloorViews.{place_of}
use Rattle.kit_floor.proofs.Closing.{count-append, gathered_has, guests-count, place-inside, seats-count}
use Rattle.kit_floor.proofs.floor.TableFloor.close_watched.Goals as goal

pub of-account-requires-clause-places : goal.of-account-requires-clause-places
of-account-requires-clause-places g c =
    let floor = c.args.self in
    let n : ℕ = floor.table.shared.key.federates in
    let all = c.gather_guests.ensures.places ∙ ap (λ l. l ++ desks_taken_in (map guest_desk_of c.args.guests.items)) c.gather-all.ensures.places in
    let seats = seats-count floor c.args.seats.items c.requires.seats ∙ c.requires.count in
    let guests = guests-count floor c.args.guests.items c.requires.guests in
    let counted : count_of_federates n (desk_of c.gather_guests.new.all) ≡ n =
    ap (count_of_federates n) all ∙ (count-append n (desks_taken_in (map desk_of c.args.seats.items)) (desks_taken_in (map guest_desk_of c.args.guests.items)) ∙ omega (arith, seats, guests)) in
    ap (λ (k : ℕ). count_of_federates k (desk_of c.gather_guests.new.all)) (sym floor.laid.federates) ∙ (counted ∙ floor.laid.federates)

pub returns-clause-each : goal.returns-clause-each
returns-clause-each g c = λ k s e.
    let floor = c.args.self in
    let first = g.P.Protocol.first in
    let p = place_of first floor s in
    let all = c.gather_guests.ensures.places ∙ ap (λ l. l ++ desks_taken_in (map guest_desk_of c.args.guests.items)) c.gather-all.ensures.places in
    let t = gathered_has desk_of c.args.seats.items k s 0 p e (own_at (first floor.table.shared.key.opening.value) s.seat.me.0 s.own.there) in
    let inside = subst (λ (n : ℕ). p.own.number < n) floor.laid.federates (place-inside floor first s (c.requires.seats k s e)) in
    c.of-account.ensures.each t.0 p (ap (λ l. get_elem? l t.0) all ∙ at_longer (desks_taken_in (map desk_of c.args.seats.items)) (desks_taken_in (map guest_desk_of c.args.guests.items)) t.0 p t.1) inside

pub returns-clause-sees : goal.returns-clause-sees
returns-clause-sees g c = λ k s e j p at.
    let floor = c.args.self in
    let had = desks_taken_in (map desk_of c.args.seats.items) in
    let more = desks_taken_in (map guest_desk_of c.args.guests.items) in
    let all = c.gather_guests.ensures.places ∙ ap (λ l. l ++ more) c.gather-all.ensures.places in
    let t = gathered_has guest_desk_of c.args.guests.items k s j p e at in
    let behind = subst (λ (n : ℕ). n ≤ p.own.number) (sym (c.requires.guests k s e).as_many ∙ floor.laid.federates) (s.guests j p at) in
    c.of-account.ensures.sees (length had + t.0) p (ap (λ l. get_elem? l (length had + t.0)) all ∙ (at_behind had more t.0 ∙ t.1)) behind
