use Rattle.kit_queue.proofs.Waiting.{in_order_empty, apart_empty}
use Rattle.kit_queue.proofs.ts_queue.TsQueueOrder.empty.Goals as goal

pub invariant_of-result-clause-in_order : goal.invariant_of-result-clause-in_order
invariant_of-result-clause-in_order c = in_order_empty c.new.result.items c.new.ensures.items

pub invariant_of-result-clause-numbered_apart : goal.invariant_of-result-clause-numbered_apart
invariant_of-result-clause-numbered_apart c = apart_empty c.new.result.items c.new.ensures.items
