use Rattle.std.proofs.Common.{◌≡◌, ◌==◌, ◌/◌, ◌<◌, ℕ, sym, refl, subst, ap, ◌∙◌, arith, length, true}
use Rattle.kit_ground.specs.declared.address.Address.TheVariants.{Register, Mail, Count, Part}
use Rattle.kit_ground.specs.declared.place.Deed.TheVariants.{SawFree, Wrote, Charged, PostedTo, Collected, ReadPart, Released, Published}
use Rattle.kit_ground.specs.declared.place.Place.{Place}
use Rattle.kit_ground.specs.Steps.{buffer_of, place_after}
use Rattle.kit_lbts.specs.declared.view.LbtsView.{LbtsView}
use Rattle.kit_lbts.specs.Progress.{view_after}
use Rattle.kit_lbts.specs.SeatLaws.{IsInWorld}
use Rattle.kit_node.proofs.WorldSteps.{goes_on}
use Rattle.kit_lbts.proofs.WithAgreement.{posts_agree}
use Rattle.kit_node.proofs.steps.post.Goals as goal

abbrev P : Type 0
P = Place LbtsView

pub post-requires-clause-rule : goal.post-requires-clause-rule
post-requires-clause-rule g c = posts_agree (g.G.Ground.place c.args.ground.now) c.args.buffer c.args.to c.requires.buffer c.requires.to c.requires.owed

pub returns-clause-world : goal.returns-clause-world
returns-clause-world g c =
    let p : P = g.G.Ground.place c.args.ground.now in
    let k : ℕ = c.args.buffer in
    let j : ℕ = c.args.to in
    let t = c.post.ensures.told in
    subst IsInWorld (sym c.post.ensures.place)
    (goes_on p (Mail j p.own.number (k / 64)) (λ _. PostedTo k j) t.0 refl (c.requires.buffer, c.requires.to, c.requires.owed) (posts_agree p k j c.requires.buffer c.requires.to c.requires.owed) t.1)
