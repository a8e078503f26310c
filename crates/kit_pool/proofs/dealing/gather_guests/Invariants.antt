use Rattle.std.proofs.Common.{◌≡◌, ◌++◌, ℕ, map}
use mathlib.Core.Option.{some}
use lib.ListN.{get_elem?}
use Rattle.kit_pool.specs.Dealing.{GuestIsOf, IsOf}
use Rattle.kit_pool.specs.GuestViews.{guest_desk_of}
use Rattle.kit_pool.specs.SeatViews.{desk_of}
use Rattle.kit_pool.specs.Seats.{desks_taken_in}
use Rattle.kit_pool.proofs.dealing.gather_guests.Given as goal

abbrev pub invariant-loop-guest : goal.invariant-loop-guest
invariant-loop-guest g l =
    IsOf l.table.shared l.all
    × (desk_of l.all ++ desks_taken_in (map guest_desk_of l.guests.items) ≡ desk_of l.initial.all ++ desks_taken_in (map guest_desk_of l.fn.guests.items))
    × ((k : ℕ) (s : _) → get_elem? l.guests.items k ≡ some s → GuestIsOf l.table.shared s)

abbrev pub decreases-loop-guest : goal.decreases-loop-guest
decreases-loop-guest g l = goal.left-loop-guest g l
