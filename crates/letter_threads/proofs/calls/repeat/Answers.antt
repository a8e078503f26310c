use Rattle.std.proofs.Common.{ℕ}
use Rattle.kit_pool.specs.Pools.{no_client}
use Rattle.kit_pool.proofs.SeatLists.{at_end}
use Rattle.kit_floor.specs.FloorViews.{IsNewSeatOf}
use Rattle.letter_threads.proofs.calls.repeat.Goals as goal

pub repeat_on-requires-clause-new : goal.repeat_on-requires-clause-new
repeat_on-requires-clause-new c =
    at_end (λ s. (k : ℕ) × IsNewSeatOf (λ _. no_client) c.in_ok-floor.floor k s) _ _ _ c.in-Some.ensures.items (λ k s e. (k, c.in_ok-floor.ensures.seats k s e))
