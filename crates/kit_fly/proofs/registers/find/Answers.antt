use Rattle.std.proofs.Common.{sym, subst}
use Rattle.kit_ground.specs.declared.place.Place.{Place}
use Rattle.kit_lbts.specs.declared.view.LbtsView.{LbtsView}
use Rattle.kit_lbts.proofs.WithAgreement.{looks_agree}
use Rattle.kit_lbts.specs.SeatLaws.{IsInWorld}
use Rattle.kit_fly.proofs.After.{look_world}
use Rattle.kit_fly.proofs.registers.find.Goals as goal

pub look-requires-clause-rule : goal.look-requires-clause-rule
look-requires-clause-rule g c = let p : Place LbtsView = g.G.Ground.place c.args.ground.now in looks_agree p c.args.reg

pub returns-then-from-round-clause-world : goal.returns-then-from-round-clause-world
returns-then-from-round-clause-world g c =
    let p : Place LbtsView = g.G.Ground.place c.args.ground.now in
    subst IsInWorld (sym c.look.ensures.place) (look_world p c.args.reg c.look.result c.requires c.look.ensures.told)

pub returns-else-from-round-clause-world : goal.returns-else-from-round-clause-world
returns-else-from-round-clause-world g c =
    let p : Place LbtsView = g.G.Ground.place c.args.ground.now in
    subst IsInWorld (sym c.look.ensures.place) (look_world p c.args.reg c.look.result c.requires c.look.ensures.told)
