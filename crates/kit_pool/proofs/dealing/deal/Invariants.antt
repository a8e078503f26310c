use Rattle.std.proofs.Common.{◌≡◌, ℕ, length}
use mathlib.Core.Option.{some}
use lib.ListN.{get_elem?}
use Rattle.kit_pool.specs.Dealing.{IsToDeal}
use Rattle.kit_pool.specs.SeatViews.{IsNewSeatOn}
use Rattle.kit_pool.proofs.dealing.deal.Given as goal

abbrev pub invariant-loop-number : goal.invariant-loop-number
invariant-loop-number g l =
    IsToDeal g.P.Protocol.first l.table.shared l.number l.all l.rest
    × (length l.seats.items ≡ l.number)
    × ((k : ℕ) (s : _) → get_elem? l.seats.items k ≡ some s → IsNewSeatOn g.P.Protocol.first l.table.shared k s)
