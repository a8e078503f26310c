use Rattle.std.proofs.Common.{ℕ}
use Rattle.kit_pool.specs.Pools.{no_client}
use Rattle.kit_pool.proofs.SeatLists.{each_left, last_is, one_fewer}
use Rattle.kit_floor.specs.FloorViews.{IsNewSeatOf}
use Rattle.kit_floor.proofs.tests.floor_of_two.Goals as goal

pub returns-clause-first : goal.returns-clause-first
returns-clause-first c =
    let laid = c.in_ok-floor.ensures in
    let last = c.in-Some-Some.ensures.items in
    let next = c.in-Some-Some.ensures'.items in
    last_is (λ k s. IsNewSeatOf (λ _. no_client) c.in_ok-floor.floor k s) _ _ _ 0 next (one_fewer _ _ _ 1 last laid.many) (each_left (λ k s. IsNewSeatOf (λ _. no_client) c.in_ok-floor.floor k s) _ _ _ last laid.seats)

pub returns-clause-second : goal.returns-clause-second
returns-clause-second c =
    let laid = c.in_ok-floor.ensures in
    last_is (λ k s. IsNewSeatOf (λ _. no_client) c.in_ok-floor.floor k s) _ _ _ 1 c.in-Some-Some.ensures.items laid.many laid.seats
