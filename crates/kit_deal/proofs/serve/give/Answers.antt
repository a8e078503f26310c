use Rattle.crossbeam_queue.specs.Passes.{view}
use Rattle.kit_deal.specs.Dealings.{IsOpen}
use Rattle.kit_deal.proofs.Moves.{gives, room_is_left, never_full}
use Rattle.kit_deal.proofs.serve.give.Goals as goal

pub push_as-requires-clause-rule : goal.push_as-requires-clause-rule
push_as-requires-clause-rule g c =
    let d = g.D.Deal in let t = c.requires.holds in (gives d.number (IsOpen d.Fits d.has_ended) d.all _ _ _ _ t.0 c.requires.goes_on t.1, room_is_left d.number (IsOpen d.Fits d.has_ended) d.all _ _)

pub unreachable-requires : goal.unreachable-requires
unreachable-requires g c =
    let d = g.D.Deal in let t = c.requires.holds in never_full d.number (IsOpen d.Fits d.has_ended) d.all _ (view c.args.token.now) _ t.0 c.requires.capacity t.1 c.in-Err.ensures.rule.2
