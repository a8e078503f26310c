use Rattle.std.proofs.Common.{◌≡◌, ◌==◌, ◌/◌, ◌<◌, ℕ, sym, refl, subst, ap, ◌∙◌, arith, length, true}
use Rattle.kit_ground.specs.declared.address.Address.TheVariants.{Register, Mail, Count, Part}
use Rattle.kit_ground.specs.declared.place.Deed.TheVariants.{SawFree, Wrote, Charged, PostedTo, Collected, ReadPart, Released, Published}
use Rattle.kit_ground.specs.declared.place.Place.{Place}
use Rattle.kit_ground.specs.Steps.{buffer_of, place_after}
use Rattle.kit_lbts.specs.declared.view.LbtsView.{LbtsView}
use Rattle.kit_lbts.specs.Progress.{view_after}
use Rattle.kit_lbts.specs.SeatLaws.{IsInWorld}
use Rattle.kit_node.proofs.WorldSteps.{goes_on}
use Rattle.kit_lbts.proofs.WithAgreement.{releases_agree}
use Rattle.kit_node.proofs.PlaceTells.{held_releasable}
use Rattle.kit_node.proofs.steps.release.Goals as goal

abbrev P : Type 0
P = Place LbtsView

pub release-requires-clause-held : goal.release-requires-clause-held
release-requires-clause-held g c = held_releasable (g.G.Ground.place c.args.ground.now) c.requires.world c.args.from c.args.buffer c.requires.from c.requires.buffer c.requires.may

pub release-requires-clause-rule : goal.release-requires-clause-rule
release-requires-clause-rule g c =
    let p : P = g.G.Ground.place c.args.ground.now in
    let r = c.requires in
    releases_agree p c.args.from c.args.buffer r.from r.buffer (held_releasable p r.world c.args.from c.args.buffer r.from r.buffer r.may) r.may

pub returns-clause-world : goal.returns-clause-world
returns-clause-world g c =
    let p : P = g.G.Ground.place c.args.ground.now in
    let i : ℕ = c.args.from in
    let k : ℕ = c.args.buffer in
    let r = c.requires in
    let on = held_releasable p r.world i k r.from r.buffer r.may in
    let t = c.release.ensures.told in
    subst IsInWorld (sym c.release.ensures.place)
    (goes_on p (Count i k) (λ _. Released i k) t.0 refl (r.from, r.buffer, on) (releases_agree p i k r.from r.buffer on r.may) t.1)
