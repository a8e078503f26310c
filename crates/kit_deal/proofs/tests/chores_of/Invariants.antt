use Rattle.std.proofs.Common.{◌≡◌, ◌<◌, length, All}
use Rattle.kit_deal.proofs.tests.chores_of.Given as goal

abbrev pub invariant-loop-number : goal.invariant-loop-number
invariant-loop-number l = (length l.chores.items ≡ l.number-index) × All (λ c. 0 < c.left) l.chores.items
