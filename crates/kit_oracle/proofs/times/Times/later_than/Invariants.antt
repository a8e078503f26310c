-- those that were later are later still
use Rattle.std.proofs.Common.{◌≡◌, ◌≤◌, ℕ, length}
use Rattle.kit_oracle.specs.Times.{count_later}
use Rattle.kit_oracle.proofs.times.Times.later_than.Given as goal

abbrev pub invariant-loop : goal.invariant-loop
invariant-loop l = (t : ℕ) → l.by ≤ t → count_later t l.self ≡ count_later t l.initial.self

abbrev pub decreases-loop : goal.decreases-loop
decreases-loop l = length l.self
