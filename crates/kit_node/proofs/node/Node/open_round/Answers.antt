use Rattle.std.proofs.Common.{ℕ, ◌<◌, ◌≤◌, ◌≢◌, arith}
use Rattle.kit_ground.specs.declared.place.Place.{Place}
use Rattle.kit_lbts.specs.declared.view.LbtsView.{LbtsView}
use Rattle.kit_node.specs.Mirrors.{shows}
use Rattle.kit_node.proofs.RoundOpenings.{has_opened, me_then, posts_few, promises_then, receipts_few, starts_then, within_end}
use Rattle.kit_node.proofs.node.Node.open_round.Goals as goal

abbrev P : Type 0
P = Place LbtsView

pub take_colour-requires-clause-posts : goal.take_colour-requires-clause-posts
take_colour-requires-clause-posts g c = posts_few (shows g.Q.Order.entries g.R.Reduction.scheme g.R.Reduction.state) c.args.federation.now c.args.self.now (g.G.Ground.place c.args.ground.now) c.requires.world c.requires.federation c.requires.mirrors

pub take_colour-requires-clause-receipts : goal.take_colour-requires-clause-receipts
take_colour-requires-clause-receipts g c = receipts_few (shows g.Q.Order.entries g.R.Reduction.scheme g.R.Reduction.state) c.args.federation.now c.args.self.now (g.G.Ground.place c.args.ground.now) c.requires.world c.requires.federation c.requires.mirrors

pub share-share-requires-clause-me : goal.share-share-requires-clause-me
share-share-requires-clause-me g c = me_then (shows g.Q.Order.entries g.R.Reduction.scheme g.R.Reduction.state) c.args.federation.now c.args.self.now (g.G.Ground.place c.args.ground.now) c.requires.world c.requires.federation c.requires.mirrors
    c.if-self.false (grind (arith, c.if-self-end.false, c.end.ensures.value)) (omega (arith, c.keeps_its_count.ensures.counted, c.keeps_its_count.ensures.room)) c.take_colour.new.self c.take_colour.ensures

pub share-share-requires-clause-course : goal.share-share-requires-clause-course
share-share-requires-clause-course g c = promises_then (shows g.Q.Order.entries g.R.Reduction.scheme g.R.Reduction.state) c.args.federation.now c.args.self.now (g.G.Ground.place c.args.ground.now) c.requires.world c.requires.federation c.requires.mirrors
    c.if-self.false (grind (arith, c.if-self-end.false, c.end.ensures.value)) (omega (arith, c.keeps_its_count.ensures.counted, c.keeps_its_count.ensures.room)) c.take_colour.new.self c.take_colour.ensures

pub start-requires-clause-next : goal.start-requires-clause-next
start-requires-clause-next g c = starts_then (shows g.Q.Order.entries g.R.Reduction.scheme g.R.Reduction.state) c.args.federation.now c.args.self.now (g.G.Ground.place c.args.ground.now) c.requires.world c.requires.federation c.requires.mirrors
    c.if-self.false (grind (arith, c.if-self-end.false, c.end.ensures.value)) (omega (arith, c.keeps_its_count.ensures.counted, c.keeps_its_count.ensures.room)) c.take_colour.new.self c.take_colour.ensures
    c.share-share.result c.share-share.ensures (λ e. grind (arith, c.if-self-2.false, e))

below : (a b : ℕ) → a ≤ b → a ≢ b → a < b
below a b le ne = grind (arith, le, ne)

pub returns-clause-opened : goal.returns-clause-opened
returns-clause-opened g c did =
    let e = c.start.ensures in
    has_opened (shows g.Q.Order.entries g.R.Reduction.scheme g.R.Reduction.state) c.args.self.now (g.G.Ground.place c.args.ground.now) _ c.start.new.self c.if-self.false (below c.args.self.now.rounds.taken c.args.self.now.rounds.limit c.requires.mirrors.rounds.limited (λ e. grind (arith, c.if-self-2.false, e)))
    (within_end (shows g.Q.Order.entries g.R.Reduction.scheme g.R.Reduction.state) c.args.federation.now c.args.self.now (g.G.Ground.place c.args.ground.now) c.requires.world c.requires.federation c.requires.mirrors
    c.if-self.false (grind (arith, c.if-self-end.false, c.end.ensures.value)))
    e.left e.looks e.view e.follows e.shown c.take_colour.new.self c.take_colour.ensures
