use Rattle.std.proofs.Common.{◌<◌, List, length, sym, subst, arith}
use Rattle.kit_base.specs.declared.message.Message.{Message}
use Rattle.kit_ground.specs.declared.place.Place.{Place}
use Rattle.kit_lbts.specs.declared.view.LbtsView.{LbtsView}
use Rattle.kit_lbts.specs.MessageLaws.{MayCharge}
use Rattle.kit_node.proofs.Writings.{carries, in_put, may_charge}
use Rattle.kit_node.proofs.outbox.Outbox.put.Goals as goal

abbrev P : Type 0
P = Place LbtsView

pub write-requires-clause-message : goal.write-requires-clause-message
write-requires-clause-message g c = carries (g.G.Ground.place c.args.ground.now) c.requires.world c.args.message.now c.requires.first c.args.colour c.requires.small

pub charge-requires-clause-may : goal.charge-requires-clause-may
charge-requires-clause-may g c =
    let p : P = g.G.Ground.place c.args.ground.now in
    let r = c.requires in
    let m : Message = c.args.message.now in
    let may : MayCharge _ c.args.buffer c.args.mask m r.first.rest = may_charge p r.world m r.first c.args.colour c.args.buffer c.args.mask r.buffer r.free r.mask r.colour c.has_small_value.ensures in
    subst (λ (q : P). (first : Message) × (rest : List Message) × MayCharge q c.args.buffer c.args.mask first rest) (sym c.write.ensures.place) (m, r.first.rest, may)

pub index_mut-requires : goal.index_mut-requires
index_mut-requires g c =
    let inside : c.args.buffer < length c.args.self.now.put.items = in_put (g.G.Ground.place c.args.ground.now) c.requires.world c.args.buffer c.requires.buffer c.args.self.now.put.items c.requires.mirrors.put in
    omega arith
