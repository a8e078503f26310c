use Rattle.std.proofs.Common.{ℕ, ◌+◌}
use Rattle.kit_pool.specs.Pools.{no_client}
use Rattle.kit_pool.proofs.SeatLists.{each_left, last_is, one_fewer}
use Rattle.kit_floor.specs.FloorViews.{IsNewSeatOf}
use Rattle.kit_floor.specs.GuestViews.{IsNewGuestOf}
use Rattle.kit_floor.proofs.tests.watched_floor.Goals as goal

pub lay_watched-requires-clause-sees : goal.lay_watched-requires-clause-sees
lay_watched-requires-clause-sees c = λ k lk. tt

pub returns-clause-seat : goal.returns-clause-seat
returns-clause-seat c =
    let laid = c.in_ok-floor.ensures in
    last_is (λ k s. IsNewSeatOf (λ _. no_client) c.in_ok-floor.floor k s) _ _ _ 0 c.in-Some-Some-Some.ensures.items laid.many laid.seats

pub returns-clause-first : goal.returns-clause-first
returns-clause-first c =
    let laid = c.in_ok-floor.ensures in
    let last = c.in-Some-Some-Some.ensures'.items in
    let next = c.in-Some-Some-Some.ensures''.items in
    last_is (λ k s. IsNewGuestOf (λ _. no_client) c.in_ok-floor.floor (1 + k) s) _ _ _ 0 next (one_fewer _ _ _ 1 last laid.watchers) (each_left (λ k s. IsNewGuestOf (λ _. no_client) c.in_ok-floor.floor (1 + k) s) _ _ _ last laid.guests)

pub returns-clause-second : goal.returns-clause-second
returns-clause-second c =
    let laid = c.in_ok-floor.ensures in
    last_is (λ k s. IsNewGuestOf (λ _. no_client) c.in_ok-floor.floor (1 + k) s) _ _ _ 1 c.in-Some-Some-Some.ensures'.items laid.watchers laid.guests
