use Rattle.std.proofs.Common.{Some}
use Rattle.kit_queue.proofs.Waiting.{in_order_rest, apart_rest}
use Rattle.kit_queue.proofs.ts_queue.TsQueueOrder.pop_due.Goals as goal

pub invariant_of-self-2-clause-in_order : goal.invariant_of-self-2-clause-in_order
invariant_of-self-2-clause-in_order c = in_order_rest (Some c.in_ok-entry.entry) c.args.self.now.waiting.items c.pop_front.new.self.items c.in_ok-entry.ensures.items c.args.self.now.in_order

pub invariant_of-self-2-clause-numbered_apart : goal.invariant_of-self-2-clause-numbered_apart
invariant_of-self-2-clause-numbered_apart c = apart_rest (Some c.in_ok-entry.entry) c.args.self.now.waiting.items c.pop_front.new.self.items c.in_ok-entry.ensures.items c.args.self.now.numbered_apart
