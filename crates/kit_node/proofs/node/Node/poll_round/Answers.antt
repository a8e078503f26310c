use Rattle.std.proofs.Common.{◌==◌, not, Bool, refl, sym, ◌∙◌, subst}
use Rattle.kit_ground.specs.declared.place.Place.{Place}
use Rattle.kit_lbts.specs.declared.view.LbtsView.{LbtsView}
use Rattle.kit_fly.specs.declared.reduction.Poll.{Poll}
use Rattle.kit_fly.specs.Polls.{IsAnswer}
use Rattle.kit_node.specs.Fields.{closed_with}
use Rattle.kit_node.specs.Mirrors.{shows}
use Rattle.kit_node.specs.Reducing.{HasPolled}
use Rattle.kit_node.proofs.Polling.{close_reduction, found_none, found_some, polled_closed, polled_open}
use Rattle.kit_node.proofs.node.Node.poll_round.Goals as goal

abbrev P : Type 0
P = Place LbtsView

pub returns-in-NotYet-clause-polled : goal.returns-in-NotYet-clause-polled
returns-in-NotYet-clause-polled g c under =
    let sh = shows g.Q.Order.entries g.R.Reduction.scheme g.R.Reduction.state in
    let n = c.args.self.now in
    let e = c.poll-answer.ensures in
    let x = c.poll-answer.new.self in
    let p : P = g.G.Ground.place c.args.ground.now in
    let q : P = g.G.Ground.place c.poll-answer.new.ground in
    let answer = subst (λ (r : Poll). IsAnswer g.R.Reduction.scheme (g.R.Reduction.state n.rounds.reduction) (g.R.Reduction.state x) p q r) c.in-NotYet.is e.answer in
    let after = c.taken.ensures in
    let before = c.taken-before.ensures in
    polled_open sh n (record n { rounds = record n.rounds { reduction = x } }) p q e.left (c.requires.follows under) e.taken e.follows e.shown answer.more _ answer (not (c.taken.result == c.taken-before.result))
    (λ h. sym after ∙ (found_none c.taken.result c.taken-before.result h ∙ before)) (λ h is. found_some c.taken.result c.taken-before.result h (after ∙ (is ∙ sym before))) refl

pub returns-in-Result-clause-polled : goal.returns-in-Result-clause-polled
returns-in-Result-clause-polled g c under =
    let sh = shows g.Q.Order.entries g.R.Reduction.scheme g.R.Reduction.state in
    let n = c.args.self.now in
    let e = c.poll-answer.ensures in
    let x = c.poll-answer.new.self in
    let sum = c.in-Result.sum in
    let p : P = g.G.Ground.place c.args.ground.now in
    let q : P = g.G.Ground.place c.poll-answer.new.ground in
    let answer = subst (λ (r : Poll). IsAnswer g.R.Reduction.scheme (g.R.Reduction.state n.rounds.reduction) (g.R.Reduction.state x) p q r) c.in-Result.is e.answer in
    let found : Bool = not (c.taken.result == c.taken-before.result) in
    let after = c.taken.ensures in
    let before = c.taken-before.ensures in
    let h = polled_closed sh n (record n { rounds = record (closed_with sum n.rounds) { reduction = x } }) p q e.left (c.requires.follows under) e.taken e.follows e.shown found sum
    (λ h. sym after ∙ (found_none c.taken.result c.taken-before.result h ∙ before)) answer refl in
    subst (λ r. HasPolled sh found n (record n { rounds = r }) p q) (sym (c.close.ensures ∙ close_reduction sum n.rounds x)) h
