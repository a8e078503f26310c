use Rattle.std.proofs.Common.{◌≤◌, ◌++◌, length, subst, arith}
use Rattle.crossbeam_queue.specs.Passes.{view}
use Rattle.kit_deal.specs.declared.dealing.Hand.{Hand}
use Rattle.kit_deal.specs.Dealings.{hand}
use Rattle.kit_deal.specs.Dealings.{IsOpen}
use Rattle.kit_deal.proofs.Moves.{merges, within, holds_both, room_for_both}
use Rattle.kit_deal.proofs.serve.take_in.Goals as goal

pub absorb-requires-clause-rule : goal.absorb-requires-clause-rule
absorb-requires-clause-rule g c =
    let d = g.D.Deal in merges d.number (IsOpen d.Fits d.has_ended) d.all _ (view c.args.token.now) _ (view c.args.other) c.requires.token.some_part

pub learn_as-requires-clause-rule : goal.learn_as-requires-clause-rule
learn_as-requires-clause-rule g c = let d = g.D.Deal in within d.number (IsOpen d.Fits d.has_ended) d.all _ (view c.absorb.new.pass)

pub unreachable-requires : goal.unreachable-requires
unreachable-requires g c =
    let d = g.D.Deal in let v = view c.args.token.now in let w = view c.args.other in let kept = c.args.kept.now.items in let more = c.args.more.items in
    let both = holds_both d.number (IsOpen d.Fits d.has_ended) d.all v w 0 kept more c.requires.kept.held c.requires.more.held in
    let most = subst (λ (u : Hand). length u.held ≤ length d.all) c.absorb.ensures.rule c.learn_as.ensures.rule.1 in
    omega (arith, room_for_both d.number (IsOpen d.Fits d.has_ended) d.all (hand 0 (v.held ++ w.held)) kept more _ both most c.requires.room, c.in-Err.ensures.full)
