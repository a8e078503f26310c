use Rattle.std.proofs.Common.{◌≡◌, ◌==◌, ◌/◌, ◌<◌, ℕ, sym, refl, subst, ap, ◌∙◌, arith, length, true}
use Rattle.kit_ground.specs.declared.address.Address.TheVariants.{Register, Mail, Count, Part}
use Rattle.kit_ground.specs.declared.place.Deed.TheVariants.{SawFree, Wrote, Charged, PostedTo, Collected, ReadPart, Released, Published}
use Rattle.kit_ground.specs.declared.place.Place.{Place}
use Rattle.kit_ground.specs.Steps.{buffer_of, place_after}
use Rattle.kit_lbts.specs.declared.view.LbtsView.{LbtsView}
use Rattle.kit_lbts.specs.Progress.{view_after}
use Rattle.kit_lbts.specs.SeatLaws.{IsInWorld}
use Rattle.kit_node.proofs.WorldSteps.{goes_on}
use Rattle.kit_lbts.proofs.WithAgreement.{count_looks_agree}
use Rattle.kit_node.proofs.PlaceTells.{owes_nothing}
use Rattle.kit_node.proofs.steps.is_free.Goals as goal

abbrev P : Type 0
P = Place LbtsView

pub look_free-requires-clause-posted : goal.look_free-requires-clause-posted
look_free-requires-clause-posted g c = owes_nothing (g.G.Ground.place c.args.ground.now) c.requires.world c.requires.whole c.args.buffer

pub look_free-requires-clause-rule : goal.look_free-requires-clause-rule
look_free-requires-clause-rule g c = count_looks_agree (g.G.Ground.place c.args.ground.now) c.args.buffer c.requires.buffer

pub returns-clause-world : goal.returns-clause-world
returns-clause-world g c =
    let p : P = g.G.Ground.place c.args.ground.now in
    let k : ℕ = c.args.buffer in
    let t = c.look_free.ensures.told in
    let is = c.look_free.ensures.place in
    subst IsInWorld (sym (is ∙ ap (λ b. place_after view_after (SawFree k b) p) t.2))
    (goes_on p (Count p.own.number k) (λ count. SawFree k (count == 0)) t.0 refl (c.requires.buffer, owes_nothing p c.requires.world c.requires.whole k, refl) (count_looks_agree p k c.requires.buffer) t.1)
