use Rattle.std.proofs.Common.{◌≡◌, ◌++◌, ℕ, map}
use mathlib.Core.Option.{some}
use lib.ListN.{get_elem?}
use Rattle.kit_pool.specs.Dealing.{IsOf}
use Rattle.kit_pool.specs.SeatViews.{desk_of}
use Rattle.kit_pool.specs.Seats.{desks_taken_in}
use Rattle.kit_pool.proofs.dealing.gather.Given as goal

abbrev pub invariant-loop-seat : goal.invariant-loop-seat
invariant-loop-seat g l =
    IsOf l.table.shared l.all
    × (desk_of l.all ++ desks_taken_in (map desk_of l.seats.items) ≡ desks_taken_in (map desk_of l.fn.seats.items))
    × ((k : ℕ) (s : _) → get_elem? l.seats.items k ≡ some s → IsOf l.table.shared s)

abbrev pub decreases-loop-seat : goal.decreases-loop-seat
decreases-loop-seat g l = goal.left-loop-seat g l
