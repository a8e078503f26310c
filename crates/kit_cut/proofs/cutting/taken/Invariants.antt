-- the messages so far, and those that are still to be taken
use Rattle.std.proofs.Common.{◌≡◌, ◌++◌, length}
use Rattle.kit_oracle.specs.Pending.{front_until}
use Rattle.kit_cut.proofs.cutting.taken.Given as goal

abbrev pub invariant-loop-message : goal.invariant-loop-message
invariant-loop-message l = l.messages ++ front_until l.by l.queue ≡ front_until l.by l.initial.queue

abbrev pub decreases-loop-message : goal.decreases-loop-message
decreases-loop-message l = length l.queue
