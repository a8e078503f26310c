use Rattle.kit_ground.specs.declared.place.Place.{Place}
use Rattle.kit_lbts.specs.declared.view.LbtsView.{LbtsView}
use Rattle.kit_node.specs.Mirrors.{shows}
use Rattle.kit_node.proofs.Turning.{seat_listed, turn_listed}
use Rattle.kit_node.proofs.node.Node.turn.Goals as goal

abbrev P : Type 0
P = Place LbtsView

pub returns-clause-seat : goal.returns-clause-seat
returns-clause-seat g c =
    seat_listed (shows g.Q.Order.entries g.R.Reduction.scheme g.R.Reduction.state) c.args.federation.now c.args.self.now c.answer-answer.new.self c.count_turn.new.self (g.G.Ground.place c.args.ground.now) (g.G.Ground.place c.answer-answer.new.ground)
    c.count_turn.ensures.others c.answer-answer.ensures.seat

pub returns-clause-turn : goal.returns-clause-turn
returns-clause-turn g c =
    turn_listed (shows g.Q.Order.entries g.R.Reduction.scheme g.R.Reduction.state) c.args.federation.now c.args.self.now c.answer-answer.new.self c.count_turn.new.self (g.G.Ground.place c.args.ground.now) (g.G.Ground.place c.answer-answer.new.ground)
    c.count_turn.ensures.others c.args.self.now.ended c.answer-answer.result c.answer-answer.ensures.turn
