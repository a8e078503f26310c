-- the times of the messages so far are added
use Rattle.std.proofs.Common.{◌≡◌, ◌+◌, ℕ, take}
use Rattle.kit_oracle.specs.Times.{count_later, count_sent_later}
use Rattle.kit_oracle.proofs.needs.add_times.Given as goal

abbrev pub invariant-loop-message : goal.invariant-loop-message
invariant-loop-message l = (t : ℕ) → count_later t l.times ≡ count_later t l.initial.times + count_sent_later l.federation t (take l.message-index l.made)
