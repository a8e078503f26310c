use Rattle.std.proofs.Common.{◌≡◌, ◌==◌, ℕ, sym, refl, subst, ap, ◌∙◌}
use Rattle.kit_ground.specs.declared.address.Address.TheVariants.{Stop}
use Rattle.kit_ground.specs.declared.place.Deed.TheVariants.{SawStop}
use Rattle.kit_ground.specs.declared.place.Place.{Place}
use Rattle.kit_ground.specs.Steps.{place_after}
use Rattle.kit_lbts.specs.declared.view.LbtsView.{LbtsView}
use Rattle.kit_lbts.specs.Progress.{view_after}
use Rattle.kit_lbts.proofs.WithAgreement.{stop_looks_agree}
use Rattle.kit_lbts.specs.SeatLaws.{IsInWorld}
use Rattle.kit_node.proofs.WorldSteps.{goes_on}
use Rattle.kit_node.proofs.steps.is_stopped.Goals as goal

abbrev P : Type 0
P = Place LbtsView

pub stopped-requires : goal.stopped-requires
stopped-requires g c = record { rule = stop_looks_agree (g.G.Ground.place c.args.ground.now) }

pub returns-clause-world : goal.returns-clause-world
returns-clause-world g c =
    let p : P = g.G.Ground.place c.args.ground.now in
    let t = c.stopped.ensures.told in
    let is = c.stopped.ensures.place in
    subst IsInWorld (sym (is ∙ ap (λ b. place_after view_after (SawStop b) p) t.2))
    (goes_on p Stop (λ word. SawStop (word == 1)) t.0 refl refl (stop_looks_agree p) t.1)
