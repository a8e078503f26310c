use Rattle.std.proofs.Common.{◌≡◌, ◌≤◌, length, vec_capacity}
use Rattle.crossbeam_queue.specs.Passes.{view}
use Rattle.kit_deal.specs.Dealings.{IsTokenOf, IsKept}
use Rattle.kit_deal.proofs.serve.serve.Given as goal

abbrev pub invariant-loop : goal.invariant-loop
invariant-loop g l =
    IsTokenOf g.D.Deal.all l.queue l.token
    × ((view l.token).parts ≡ (view l.fn.token).parts)
    × (length g.D.Deal.all ≤ vec_capacity l.kept)
    × IsKept g.D.Deal.number g.D.Deal.Fits g.D.Deal.has_ended (view l.token) l.kept.items
