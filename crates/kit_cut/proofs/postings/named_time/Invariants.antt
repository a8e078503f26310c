-- what is named among the messages that are left is what is named
use Rattle.std.proofs.Common.{◌≡◌, drop}
use Rattle.kit_cut.specs.SinceCut.{named_time}
use Rattle.kit_cut.proofs.postings.named_time.Given as goal

abbrev pub invariant-loop-message : goal.invariant-loop-message
invariant-loop-message l = named_time (drop l.message-index l.pending) l.retraction ≡ named_time l.pending l.retraction
