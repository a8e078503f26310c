use Rattle.std.proofs.Common.{sym, subst, ◌∙◌}
use Rattle.kit_queue.specs.Entries.{IsInOrder, AreNumberedApart}
use Rattle.kit_queue.proofs.Waiting.{in_order_put, apart_put}
use Rattle.kit_queue.proofs.ts_queue.TsQueueOrder.insert.Goals as goal

pub invariant_of-self-2-clause-in_order : goal.invariant_of-self-2-clause-in_order
invariant_of-self-2-clause-in_order c = subst IsInOrder (c.place-at.ensures.place ∙ sym c.in_ok-insert.ensures.items) (in_order_put c.args.entry c.args.self.now.waiting.items c.requires c.args.self.now.in_order)

pub invariant_of-self-2-clause-numbered_apart : goal.invariant_of-self-2-clause-numbered_apart
invariant_of-self-2-clause-numbered_apart c = subst AreNumberedApart (c.place-at.ensures.place ∙ sym c.in_ok-insert.ensures.items) (apart_put c.args.entry c.args.self.now.waiting.items c.requires c.args.self.now.numbered_apart)
