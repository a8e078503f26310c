use Rattle.kit_oracle.proofs.Split.{nothing_kept}
use Rattle.kit_oracle.proofs.pending.PendingMessages.new.Goals as goal

pub invariant_of-result : goal.invariant_of-result
invariant_of-result c = nothing_kept c.new.result.items c.new-2.result.entries c.new.ensures.items c.new-2.ensures.empty
