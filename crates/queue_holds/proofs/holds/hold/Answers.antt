use Rattle.queue_holds.proofs.Numbers.{number_is_free}
use Rattle.queue_holds.proofs.holds.hold.Goals as goal

pub insert-requires : goal.insert-requires
insert-requires g c =
    number_is_free c.in-Some.first (g.Q.Order.entries c.args.queue.now) (g.Q.Order.entries c.pop_due.new.self) c.in-Some.ensures.rest (g.met.Q.Order.numbered_apart c.args.queue.now)
