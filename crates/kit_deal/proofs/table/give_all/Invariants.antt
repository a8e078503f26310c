use Rattle.std.proofs.Common.{◌≡◌, All}
use Rattle.std.specs.Vec.Iter.{into_iter_items}
use Rattle.crossbeam_queue.specs.Passes.{view, IsPassOf}
use Rattle.kit_deal.specs.Dealings.{Holds, IsOpen}
use Rattle.kit_deal.proofs.table.give_all.Given as goal

abbrev pub invariant-loop-item : goal.invariant-loop-item
invariant-loop-item g l =
    IsPassOf l.queue l.token
    × ((view l.token).parts ≡ (view l.fn.token).parts)
    × All (IsOpen g.D.Deal.Fits g.D.Deal.has_ended) (into_iter_items l.item-iterator)
    × Holds g.D.Deal.number (view l.token) (into_iter_items l.item-iterator)
