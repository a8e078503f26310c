use Rattle.std.proofs.Common.{◌≡◌, Bool, true, false, refl, sym, ap, ◌∙◌, subst}
use Rattle.kit_ground.specs.declared.place.Deed.TheVariants.{SawStop}
use Rattle.kit_ground.specs.declared.place.Place.{Place}
use Rattle.kit_ground.specs.Steps.{place_after}
use Rattle.kit_lbts.specs.declared.view.LbtsView.{LbtsView}
use Rattle.kit_lbts.specs.Progress.{view_after}
use Rattle.kit_node.specs.Mirrors.{shows}
use Rattle.kit_node.specs.Turns.{HasWorked, TurnIs}
use Rattle.kit_node.proofs.ReceiptOrders.{received_nothing, received_since}
use Rattle.kit_node.proofs.TurnOrders.{received_looked}
use Rattle.kit_node.proofs.Turning.{closes, ended_seat, looked_place}
use Rattle.kit_node.proofs.node.Node.answer.Goals as goal

abbrev P : Type 0
P = Place LbtsView

pub returns-in-Ok-clause-came : goal.returns-in-Ok-clause-came
returns-in-Ok-clause-came g c = g.met.G.Ground.came_on _ _ _ c.is_stopped.ensures.came c.work.ensures.came

pub returns-in-Ok-clause-seat : goal.returns-in-Ok-clause-seat
returns-in-Ok-clause-seat g c =
    let sh = shows g.Q.Order.entries g.R.Reduction.scheme g.R.Reduction.state in
    let p : P = g.G.Ground.place c.args.ground.now in
    let q : P = g.G.Ground.place c.work.new.ground in
    let looked : g.G.Ground.place c.is_stopped.new.ground ≡ looked_place false p = c.is_stopped.ensures.place ∙ ap (λ (b : Bool). looked_place b p) c.if-is_stopped.false in
    (closes sh c.args.federation.now c.args.self.now c.work.new.self p q c.in-Ok.busy c.work.ensures.world c.work.ensures.federation c.in-Ok.ensures.mirrors c.work.ensures.same
    (subst (λ (x : P). HasWorked c.in-Ok.busy x q) looked c.in-Ok.ensures.worked) c.close_turn.result c.close_turn.new.self c.close_turn.ensures.answer c.close_turn.ensures.ended).0

pub returns-in-Ok-clause-turn : goal.returns-in-Ok-clause-turn
returns-in-Ok-clause-turn g c =
    let sh = shows g.Q.Order.entries g.R.Reduction.scheme g.R.Reduction.state in
    let n = c.args.self.now in
    let p : P = g.G.Ground.place c.args.ground.now in
    let q : P = g.G.Ground.place c.work.new.ground in
    let looked : g.G.Ground.place c.is_stopped.new.ground ≡ looked_place false p = c.is_stopped.ensures.place ∙ ap (λ (b : Bool). looked_place b p) c.if-is_stopped.false in
    subst (λ e. TurnIs e c.close_turn.result n c.close_turn.new.self p q) (sym c.in_default.is)
    (closes sh c.args.federation.now n c.work.new.self p q c.in-Ok.busy c.work.ensures.world c.work.ensures.federation c.in-Ok.ensures.mirrors c.work.ensures.same
    (subst (λ (x : P). HasWorked c.in-Ok.busy x q) looked c.in-Ok.ensures.worked) c.close_turn.result c.close_turn.new.self c.close_turn.ensures.answer c.close_turn.ensures.ended).1

pub returns-in-Err-clause-seat : goal.returns-in-Err-clause-seat
returns-in-Err-clause-seat g c =
    ended_seat (shows g.Q.Order.entries g.R.Reduction.scheme g.R.Reduction.state) c.args.federation.now c.work.new.self c.end_with.new.self c.in-Err.end (g.G.Ground.place c.is_stopped.new.ground) (g.G.Ground.place c.work.new.ground)
    c.work.ensures.world c.work.ensures.federation c.in-Err.ensures.ends c.end_with.ensures.ended

pub returns-in-Some-clause-order : goal.returns-in-Some-clause-order
returns-in-Some-clause-order g c = let p : P = g.G.Ground.place c.args.ground.now in received_nothing p p refl

pub returns-then-is_stopped-clause-order : goal.returns-then-is_stopped-clause-order
returns-then-is_stopped-clause-order g c =
    let p : P = g.G.Ground.place c.args.ground.now in
    let q : P = g.G.Ground.place c.is_stopped.new.ground in
    received_nothing p q (received_looked c.is_stopped.result p q c.is_stopped.ensures.place)

pub returns-in-Ok-clause-order : goal.returns-in-Ok-clause-order
returns-in-Ok-clause-order g c =
    let p : P = g.G.Ground.place c.args.ground.now in
    let q : P = g.G.Ground.place c.is_stopped.new.ground in
    received_since p q (g.G.Ground.place c.work.new.ground) (received_looked c.is_stopped.result p q c.is_stopped.ensures.place) c.work.ensures.order

pub returns-in-Err-clause-order : goal.returns-in-Err-clause-order
returns-in-Err-clause-order g c =
    let p : P = g.G.Ground.place c.args.ground.now in
    let q : P = g.G.Ground.place c.is_stopped.new.ground in
    received_since p q (g.G.Ground.place c.work.new.ground) (received_looked c.is_stopped.result p q c.is_stopped.ensures.place) c.work.ensures.order
