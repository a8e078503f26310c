use Rattle.kit_pool.specs.PoolViews.{IsNewSeatOf}
use Rattle.kit_pool.proofs.SeatLists.{each_left, last_is, one_fewer}
use Rattle.kit_pool.proofs.tests.pool_of_three.Goals as goal

pub returns-clause-first : goal.returns-clause-first
returns-clause-first c =
    let laid = c.in_ok-pool.ensures in
    let pool = c.in_ok-pool.pool in
    let third = c.in-Some-Some-Some.ensures.items in
    let second = c.in-Some-Some-Some.ensures'.items in
    let first = c.in-Some-Some-Some.ensures''.items in
    last_is (λ k s. IsNewSeatOf pool k s) _ _ _ 0 first (one_fewer _ _ _ 1 second (one_fewer _ _ _ 2 third laid.many))
    (each_left (λ k s. IsNewSeatOf pool k s) _ _ _ second (each_left (λ k s. IsNewSeatOf pool k s) _ _ _ third laid.seats))

pub returns-clause-second : goal.returns-clause-second
returns-clause-second c =
    let laid = c.in_ok-pool.ensures in
    let pool = c.in_ok-pool.pool in
    let third = c.in-Some-Some-Some.ensures.items in
    let second = c.in-Some-Some-Some.ensures'.items in
    last_is (λ k s. IsNewSeatOf pool k s) _ _ _ 1 second (one_fewer _ _ _ 2 third laid.many) (each_left (λ k s. IsNewSeatOf pool k s) _ _ _ third laid.seats)

pub returns-clause-third : goal.returns-clause-third
returns-clause-third c =
    let laid = c.in_ok-pool.ensures in
    last_is (λ k s. IsNewSeatOf c.in_ok-pool.pool k s) _ _ _ 2 c.in-Some-Some-Some.ensures.items laid.many laid.seats
