use Rattle.std.proofs.Common.{◌≡◌, ◌==◌, ◌/◌, ◌<◌, ℕ, sym, refl, subst, ap, ◌∙◌, arith, length, true}
use Rattle.kit_ground.specs.declared.address.Address.TheVariants.{Register, Mail, Count, Part}
use Rattle.kit_ground.specs.declared.place.Deed.TheVariants.{SawFree, Wrote, Charged, PostedTo, Collected, ReadPart, Released, Published}
use Rattle.kit_ground.specs.declared.place.Place.{Place}
use Rattle.kit_ground.specs.Steps.{buffer_of, place_after}
use Rattle.kit_lbts.specs.declared.view.LbtsView.{LbtsView}
use Rattle.kit_lbts.specs.Progress.{view_after}
use Rattle.kit_lbts.specs.SeatLaws.{IsInWorld}
use Rattle.kit_node.proofs.WorldSteps.{goes_on}
use Rattle.kit_ground.specs.Rules.{Keeps}
use Rattle.kit_lbts.specs.Agreement.{agreeing_rule}
use Rattle.kit_lbts.specs.Progress.{view_after_grant}
use Rattle.kit_ground.specs.Layout.{clock_of}
use Rattle.kit_lbts.specs.Seats.{most_sends}
use Rattle.kit_lbts.specs.Views.{due_of}
use Rattle.kit_lbts.proofs.GrantAgreement.{grants_agree}
use Rattle.std.proofs.Common.{◌≤◌}
use Rattle.kit_node.proofs.steps.show_time.Goals as goal

abbrev P : Type 0
P = Place LbtsView

-- the grant keeps the rule, with the number and the time by other names
keeps : (p : P) (me time : ℕ) → me ≡ p.own.number → time ≡ due_of p.client → Keeps agreeing_rule view_after p (Register (clock_of p.own.number)) (λ _. Published (clock_of p.own.number) (due_of p.client))
    → Keeps agreeing_rule view_after p (Register (clock_of me)) (λ _. Published (clock_of me) time)
keeps p me time me_is time_is k =
    let F : ℕ → ℕ → Type 0 = λ m t. Keeps agreeing_rule view_after p (Register (clock_of m)) (λ _. Published (clock_of m) t) in
    subst (λ (x : ℕ × ℕ). F x.0 x.1) (λ i. (sym me_is i, sym time_is i)) k

pub publish-requires-clause-rule : goal.publish-requires-clause-rule
publish-requires-clause-rule g c =
    let p : P = g.G.Ground.place c.args.ground.now in
    let r = c.requires in
    let m = r.may in
    keeps p c.args.me c.args.time r.me r.time (grants_agree p m.started m.posted m.early m.below m.loose (subst (λ (t : ℕ). length (view_after_grant p.own.number t p.client).state.sends ≤ most_sends) r.time r.numbers))

pub returns-clause-world : goal.returns-clause-world
returns-clause-world g c =
    let p : P = g.G.Ground.place c.args.ground.now in
    let r = c.requires in
    let m = r.may in
    let t = c.publish.ensures.told in
    let me : ℕ = c.args.me in
    let few = subst (λ (x : ℕ). length (view_after_grant p.own.number x p.client).state.sends ≤ most_sends) r.time r.numbers in
    subst IsInWorld (sym c.publish.ensures.place)
    (goes_on p (Register (clock_of me)) (λ _. Published (clock_of me) c.args.time) t.0 refl (r.me, omega arith) (keeps p me c.args.time r.me r.time (grants_agree p m.started m.posted m.early m.below m.loose few)) t.1)
