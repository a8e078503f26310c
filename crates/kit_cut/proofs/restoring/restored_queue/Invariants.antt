-- the messages so far
use Rattle.std.proofs.Common.{◌≡◌, take}
use Rattle.kit_cut.proofs.restoring.restored_queue.Given as goal

abbrev pub invariant-loop-message : goal.invariant-loop-message
invariant-loop-message l = l.queue ≡ take l.message-index l.pending
