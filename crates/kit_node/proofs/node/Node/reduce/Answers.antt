use Rattle.std.proofs.Common.{◌≡◌, Bool, true, false, sym, ap, ◌∙◌, subst}
use Rattle.std.proofs.lemmas.Bool.{false≢true, true≢false}
use Rattle.kit_ground.specs.declared.place.Place.{Place}
use Rattle.kit_lbts.specs.declared.view.LbtsView.{LbtsView}
use Rattle.kit_node.specs.Mirrors.{shows}
use Rattle.kit_node.specs.Reducing.{HasReduced}
use Rattle.kit_node.proofs.Reductions.{HasTakenPart, runs_then, takes_part}
use Rattle.kit_node.proofs.node.Node.reduce.Goals as goal

abbrev P : Type 0
P = Place LbtsView

pub poll_round-found-requires-clause-runs : goal.poll_round-found-requires-clause-runs
poll_round-found-requires-clause-runs g c =
    let sh = shows g.Q.Order.entries g.R.Reduction.scheme g.R.Reduction.state in
    let p : P = g.G.Ground.place c.args.ground.now in
    runs_then sh c.args.federation.now c.args.self.now p c.requires.world c.requires.federation c.requires.mirrors c.in_ok-opened.opened c.open_round.new.self (g.G.Ground.place c.open_round.new.ground)
    c.in_ok-opened.ensures.opened c.in_ok-opened.ensures.none

pub returns-then-opened-clause-mirrors : goal.returns-then-opened-clause-mirrors
returns-then-opened-clause-mirrors g c =
    let sh = shows g.Q.Order.entries g.R.Reduction.scheme g.R.Reduction.state in
    let p : P = g.G.Ground.place c.args.ground.now in
    let r : P = g.G.Ground.place c.open_round.new.ground in
    let q : P = g.G.Ground.place c.poll_round-found.new.ground in
    (takes_part sh c.args.federation.now c.args.self.now p c.requires.world c.requires.federation c.requires.mirrors c.poll_round-found.result c.open_round.new.self c.poll_round-found.new.self r q
    c.poll_round-found.ensures.world c.poll_round-found.ensures.none c.poll_round-found.ensures.polled c.in_ok-opened.opened c.in_ok-opened.ensures.opened c.in_ok-opened.ensures.none).mirrors

pub returns-then-opened-clause-reduced : goal.returns-then-opened-clause-reduced
returns-then-opened-clause-reduced g c =
    let sh = shows g.Q.Order.entries g.R.Reduction.scheme g.R.Reduction.state in
    let p : P = g.G.Ground.place c.args.ground.now in
    let r : P = g.G.Ground.place c.open_round.new.ground in
    let q : P = g.G.Ground.place c.poll_round-found.new.ground in
    let on : c.in_ok-opened.opened ≡ true = c.if-opened.true in
    let part = takes_part sh c.args.federation.now c.args.self.now p c.requires.world c.requires.federation c.requires.mirrors c.poll_round-found.result c.open_round.new.self c.poll_round-found.new.self r q
    c.poll_round-found.ensures.world c.poll_round-found.ensures.none c.poll_round-found.ensures.polled true (λ _. c.in_ok-opened.ensures.opened on) (λ e. absurd (true≢false e)) in
    subst (λ (b : Bool). HasReduced b p q) (sym on) part.reduced

pub returns-else-opened-clause-mirrors : goal.returns-else-opened-clause-mirrors
returns-else-opened-clause-mirrors g c =
    let sh = shows g.Q.Order.entries g.R.Reduction.scheme g.R.Reduction.state in
    let p : P = g.G.Ground.place c.args.ground.now in
    let r : P = g.G.Ground.place c.open_round.new.ground in
    let q : P = g.G.Ground.place c.poll_round-found.new.ground in
    (takes_part sh c.args.federation.now c.args.self.now p c.requires.world c.requires.federation c.requires.mirrors c.poll_round-found.result c.open_round.new.self c.poll_round-found.new.self r q
    c.poll_round-found.ensures.world c.poll_round-found.ensures.none c.poll_round-found.ensures.polled c.in_ok-opened.opened c.in_ok-opened.ensures.opened c.in_ok-opened.ensures.none).mirrors

pub returns-else-opened-clause-reduced : goal.returns-else-opened-clause-reduced
returns-else-opened-clause-reduced g c =
    let sh = shows g.Q.Order.entries g.R.Reduction.scheme g.R.Reduction.state in
    let p : P = g.G.Ground.place c.args.ground.now in
    let r : P = g.G.Ground.place c.open_round.new.ground in
    let q : P = g.G.Ground.place c.poll_round-found.new.ground in
    let off : c.in_ok-opened.opened ≡ false = c.if-opened.false in
    (takes_part sh c.args.federation.now c.args.self.now p c.requires.world c.requires.federation c.requires.mirrors c.poll_round-found.result c.open_round.new.self c.poll_round-found.new.self r q
    c.poll_round-found.ensures.world c.poll_round-found.ensures.none c.poll_round-found.ensures.polled false (λ e. absurd (false≢true e)) (λ _. c.in_ok-opened.ensures.none off)).reduced

pub returns-else-opened-clause-came : goal.returns-else-opened-clause-came
returns-else-opened-clause-came g c = g.met.G.Ground.came_on _ _ _ c.in_ok-opened.ensures.came c.poll_round-found.ensures.came
