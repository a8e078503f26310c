use Rattle.std.proofs.Common.{rules}
use Rattle.crossbeam_queue.specs.Passes.{view}
use Rattle.kit_deal.specs.Dealings.{IsOpen}
use Rattle.kit_deal.proofs.Moves.{forks}
use Rattle.kit_deal.proofs.serve.+crew.Goals as goal

pub another-mine-requires-clause-rule : goal.another-mine-requires-clause-rule
another-mine-requires-clause-rule g t c = let d = g.D.Deal in forks d.number (IsOpen d.Fits d.has_ended) d.all _ (view c.args.token) (search rules)
