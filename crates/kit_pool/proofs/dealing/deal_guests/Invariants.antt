use Rattle.std.proofs.Common.{◌≡◌, ◌+◌, ℕ, length}
use mathlib.Core.Option.{some}
use lib.ListN.{get_elem?}
use Rattle.kit_pool.specs.Dealing.{IsToDeal}
use Rattle.kit_pool.specs.GuestViews.{IsNewGuestOn}
use Rattle.kit_pool.proofs.dealing.deal_guests.Given as goal

abbrev pub invariant-loop-number : goal.invariant-loop-number
invariant-loop-number g l =
    IsToDeal g.P.Protocol.first l.table.shared l.number l.all l.rest
    × (l.federates + length l.guests.items ≡ l.number)
    × ((k : ℕ) (s : _) → get_elem? l.guests.items k ≡ some s → IsNewGuestOn g.P.Protocol.first l.table.shared (l.federates + k) s)
