-- those below the place come one before another
use Rattle.std.proofs.Common.{ℕ, ◌<◌, get_or, IsTrue}
use Rattle.kit_base.specs.declared.message.Message.{Message}
use Rattle.kit_base.specs.Order.{is_before}
use Rattle.kit_cut.proofs.order.keys_rise.Given as goal

abbrev pub invariant-loop-k : goal.invariant-loop-k
invariant-loop-k l = (i j : ℕ) (d : Message) → i < j → j < l.k → IsTrue (is_before (get_or l.messages i d) (get_or l.messages j d))
