use Rattle.std.proofs.Common.{◌≡◌, ◌==◌, ◌/◌, ◌<◌, ℕ, sym, refl, subst, ap, ◌∙◌, arith, length, true}
use Rattle.kit_ground.specs.declared.address.Address.TheVariants.{Register, Mail, Count, Part}
use Rattle.kit_ground.specs.declared.place.Deed.TheVariants.{SawFree, Wrote, Charged, PostedTo, Collected, ReadPart, Released, Published}
use Rattle.kit_ground.specs.declared.place.Place.{Place}
use Rattle.kit_ground.specs.Steps.{buffer_of, place_after}
use Rattle.kit_lbts.specs.declared.view.LbtsView.{LbtsView}
use Rattle.kit_lbts.specs.Progress.{view_after}
use Rattle.kit_lbts.specs.SeatLaws.{IsInWorld}
use Rattle.kit_node.proofs.WorldSteps.{goes_on}
use Rattle.kit_lbts.proofs.WithAgreement.{bodies_agree, bodies_told}
use Rattle.kit_node.proofs.PlaceTells.{held_with_head}
use Rattle.kit_node.proofs.steps.read_body.Goals as goal

abbrev P : Type 0
P = Place LbtsView

pub read_part-requires-clause-held : goal.read_part-requires-clause-held
read_part-requires-clause-held g c = held_with_head (g.G.Ground.place c.args.ground.now) c.requires.world c.args.from c.args.buffer c.requires.head.0 c.requires.from c.requires.buffer c.requires.head.1

pub read_part-requires-clause-rule : goal.read_part-requires-clause-rule
read_part-requires-clause-rule g c =
    let r = c.requires in
    bodies_agree (g.G.Ground.place c.args.ground.now) c.args.from c.args.buffer r.head.0 r.from r.buffer r.head.1

pub returns-clause-world : goal.returns-clause-world
returns-clause-world g c =
    let p : P = g.G.Ground.place c.args.ground.now in
    let i : ℕ = c.args.from in
    let k : ℕ = c.args.buffer in
    let r = c.requires in
    let on = held_with_head p r.world i k r.head.0 r.from r.buffer r.head.1 in
    subst IsInWorld (sym c.read_part.ensures.place)
    (goes_on p (Part i k 1) (λ word. ReadPart i k 1 word) c.read_part.result refl (r.from, r.buffer, omega arith, on, refl) (bodies_agree p i k r.head.0 r.from r.buffer r.head.1) c.read_part.ensures.told)

pub returns-clause-told : goal.returns-clause-told
returns-clause-told g c head has =
    bodies_told (g.G.Ground.place c.args.ground.now) c.args.from c.args.buffer head c.read_part.result c.requires.from c.requires.buffer has c.read_part.ensures.told
