use Rattle.std.proofs.Common.{◌≡◌, ◌==◌, ◌/◌, ◌<◌, ℕ, sym, refl, subst, ap, ◌∙◌, arith, length, true}
use Rattle.kit_ground.specs.declared.address.Address.TheVariants.{Register, Mail, Count, Part}
use Rattle.kit_ground.specs.declared.place.Deed.TheVariants.{SawFree, Wrote, Charged, PostedTo, Collected, ReadPart, Released, Published}
use Rattle.kit_ground.specs.declared.place.Place.{Place}
use Rattle.kit_ground.specs.Steps.{buffer_of, place_after}
use Rattle.kit_lbts.specs.declared.view.LbtsView.{LbtsView}
use Rattle.kit_lbts.specs.Progress.{view_after}
use Rattle.kit_lbts.specs.SeatLaws.{IsInWorld}
use Rattle.kit_node.proofs.WorldSteps.{goes_on}
use Rattle.kit_lbts.proofs.WithAgreement.{charges_agree}
use Rattle.kit_node.proofs.steps.charge.Goals as goal

abbrev P : Type 0
P = Place LbtsView

pub charge-requires-clause-ready : goal.charge-requires-clause-ready
charge-requires-clause-ready g c = c.requires.may.2.chargeable

pub charge-requires-clause-mask : goal.charge-requires-clause-mask
charge-requires-clause-mask g c = c.requires.may.2.others

pub charge-requires-clause-buffer : goal.charge-requires-clause-buffer
charge-requires-clause-buffer g c = c.requires.may.2.within

pub charge-requires-clause-rule : goal.charge-requires-clause-rule
charge-requires-clause-rule g c = charges_agree (g.G.Ground.place c.args.ground.now) c.args.buffer c.args.mask c.requires.may.0 c.requires.may.1 c.requires.may.2

pub returns-clause-world : goal.returns-clause-world
returns-clause-world g c =
    let p : P = g.G.Ground.place c.args.ground.now in
    let k : ℕ = c.args.buffer in
    let may = c.requires.may in
    let t = c.charge.ensures.told in
    subst IsInWorld (sym c.charge.ensures.place)
    (goes_on p (Count p.own.number k) (λ _. Charged k c.args.mask) t.0 refl (may.2.within, may.2.chargeable, may.2.others) (charges_agree p k c.args.mask may.0 may.1 may.2) t.1)
