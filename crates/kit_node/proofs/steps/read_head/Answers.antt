use Rattle.std.proofs.Common.{◌≡◌, ◌==◌, ◌/◌, ◌<◌, ℕ, sym, refl, subst, ap, ◌∙◌, arith, length, true}
use Rattle.kit_ground.specs.declared.address.Address.TheVariants.{Register, Mail, Count, Part}
use Rattle.kit_ground.specs.declared.place.Deed.TheVariants.{SawFree, Wrote, Charged, PostedTo, Collected, ReadPart, Released, Published}
use Rattle.kit_ground.specs.declared.place.Place.{Place}
use Rattle.kit_ground.specs.Steps.{buffer_of, place_after}
use Rattle.kit_lbts.specs.declared.view.LbtsView.{LbtsView}
use Rattle.kit_lbts.specs.Progress.{view_after}
use Rattle.kit_lbts.specs.SeatLaws.{IsInWorld}
use Rattle.kit_node.proofs.WorldSteps.{goes_on}
use Rattle.kit_lbts.proofs.WithAgreement.{heads_agree}
use Rattle.kit_node.proofs.PlaceTells.{held_in_hand}
use Rattle.kit_node.proofs.steps.read_head.Goals as goal

abbrev P : Type 0
P = Place LbtsView

pub read_part-requires-clause-held : goal.read_part-requires-clause-held
read_part-requires-clause-held g c = held_in_hand (g.G.Ground.place c.args.ground.now) c.requires.world c.args.from c.args.buffer c.requires.from c.requires.buffer c.requires.in_hand

pub read_part-requires-clause-rule : goal.read_part-requires-clause-rule
read_part-requires-clause-rule g c =
    let p : P = g.G.Ground.place c.args.ground.now in
    heads_agree p c.args.from c.args.buffer c.requires.from c.requires.buffer (held_in_hand p c.requires.world c.args.from c.args.buffer c.requires.from c.requires.buffer c.requires.in_hand)

pub returns-clause-world : goal.returns-clause-world
returns-clause-world g c =
    let p : P = g.G.Ground.place c.args.ground.now in
    let i : ℕ = c.args.from in
    let k : ℕ = c.args.buffer in
    let r = c.requires in
    let on = held_in_hand p r.world i k r.from r.buffer r.in_hand in
    subst IsInWorld (sym c.read_part.ensures.place)
    (goes_on p (Part i k 0) (λ word. ReadPart i k 0 word) c.read_part.result refl (r.from, r.buffer, omega arith, on, refl) (heads_agree p i k r.from r.buffer on) c.read_part.ensures.told)
