use Rattle.std.proofs.Common.{◌≡◌, ◌<◌, ℕ, refl, subst, ◌∙◌}
use Rattle.std.specs.Prelude.{All, None}
use Rattle.kit_ground.specs.declared.place.Place.{Place}
use Rattle.kit_queue.specs.declared.entry.Entry.{Entry}
use Rattle.kit_lbts.specs.declared.view.LbtsView.{LbtsView}
use Rattle.kit_lbts.specs.Promises.{bound_of}
use Rattle.kit_node.specs.Settling.{HasSettled}
use Rattle.kit_node.proofs.MirrorFrames.{mirrors_after_settle}
use Rattle.kit_node.proofs.MirrorSettles.{inbox_settles, settles_none}
use Rattle.kit_node.proofs.node.Node.settle.Goals as goal

abbrev P : Type 0
P = Place LbtsView

pub returns-then-self-bound-clause-settled : goal.returns-then-self-bound-clause-settled
returns-then-self-bound-clause-settled g c =
    let p : P = g.G.Ground.place c.args.ground.now in
    let m = c.requires.mirrors in
    let is : c.args.self.now.inbox.settled ≡ bound_of p.client = c.if-self-bound.true ∙ m.rounds.bound in
    settles_none (bound_of p.client) p (subst (λ (b : ℕ). All (λ (e : Entry). e.message.time < b → e.buffer ≡ None) p.client.queue) is m.inbox.settled)

pub returns-clause-mirrors : goal.returns-clause-mirrors
returns-clause-mirrors g c =
    let p : P = g.G.Ground.place c.args.ground.now in
    let q : P = g.G.Ground.place c.settle_all.new.ground in
    let m = c.requires.mirrors in
    let h : HasSettled (bound_of p.client) c.settle_all.result p q = subst (λ (b : ℕ). HasSettled b c.settle_all.result p q) m.rounds.bound c.settle_all.ensures.settled in
    mirrors_after_settle _ c.args.self.now _ p q (bound_of p.client) c.settle_all.result refl refl h
    (inbox_settles _ c.args.self.now.inbox _ c.settle_all.result p q m.inbox h c.settle_all.ensures.queue refl refl m.rounds.bound) m
