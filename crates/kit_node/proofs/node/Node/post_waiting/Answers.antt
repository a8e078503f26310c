use Rattle.std.proofs.Common.{◌≡◌, ◌≢◌, [], true, false, sym, ap, ◌∙◌, subst}
use Rattle.std.proofs.lemmas.Bool.{false≢true}
use Rattle.kit_ground.specs.declared.place.Place.{Place}
use Rattle.kit_lbts.specs.declared.view.LbtsView.{LbtsView}
use Rattle.kit_node.specs.Mirrors.{Mirrors, shows}
use Rattle.kit_node.proofs.Ending.{held_up_of, posted_nothing, posted_of, ready_after, waiting_ready}
use Rattle.kit_node.proofs.node.Node.post_waiting.Goals as goal

abbrev P : Type 0
P = Place LbtsView

pub returns-then-is_empty-clause-sent : goal.returns-then-is_empty-clause-sent
returns-then-is_empty-clause-sent g c =
    let p : P = g.G.Ground.place c.args.ground.now in
    posted_nothing p (c.requires.waits ∙ (sym c.requires.mirrors.outbox.messages ∙ c.is_empty.ensures.0 c.if-is_empty.true))

pub send-requires-clause-mirrors : goal.send-requires-clause-mirrors
send-requires-clause-mirrors g c =
    let p : P = g.G.Ground.place c.args.ground.now in
    let some_ : p.client.outbox ≢ [] = λ none. false≢true (sym c.if-is_empty.false ∙ c.is_empty.ensures.1 (c.requires.mirrors.outbox.messages ∙ (sym c.requires.waits ∙ none))) in
    subst (Mirrors (shows g.Q.Order.entries g.R.Reduction.scheme g.R.Reduction.state) c.args.self.now) (waiting_ready p c.requires.world some_) c.requires.mirrors

pub returns-clause-mirrors : goal.returns-clause-mirrors
returns-clause-mirrors g c =
    let p : P = g.G.Ground.place c.args.ground.now in
    let q : P = g.G.Ground.place c.send.new.ground in
    let some_ : p.client.outbox ≢ [] = λ none. false≢true (sym c.if-is_empty.false ∙ c.is_empty.ensures.1 (c.requires.mirrors.outbox.messages ∙ (sym c.requires.waits ∙ none))) in
    ready_after (shows g.Q.Order.entries g.R.Reduction.scheme g.R.Reduction.state) c.send.new.self c.send.result p q c.requires.world some_ c.send.ensures.sent c.send.ensures.held_up c.send.ensures.mirrors

pub returns-clause-sent : goal.returns-clause-sent
returns-clause-sent g c = posted_of c.send.result (g.G.Ground.place c.args.ground.now) (g.G.Ground.place c.send.new.ground) c.send.ensures.sent

pub returns-clause-held_up : goal.returns-clause-held_up
returns-clause-held_up g c = held_up_of c.send.result (g.G.Ground.place c.args.ground.now) (g.G.Ground.place c.send.new.ground) c.send.ensures.held_up
