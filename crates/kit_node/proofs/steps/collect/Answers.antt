use Rattle.std.proofs.Common.{◌≡◌, ◌==◌, ◌/◌, ◌<◌, ℕ, sym, refl, subst, ap, ◌∙◌, arith, length, true}
use Rattle.kit_ground.specs.declared.address.Address.TheVariants.{Register, Mail, Count, Part}
use Rattle.kit_ground.specs.declared.place.Deed.TheVariants.{SawFree, Wrote, Charged, PostedTo, Collected, ReadPart, Released, Published}
use Rattle.kit_ground.specs.declared.place.Place.{Place}
use Rattle.kit_ground.specs.Steps.{buffer_of, place_after}
use Rattle.kit_lbts.specs.declared.view.LbtsView.{LbtsView}
use Rattle.kit_lbts.specs.Progress.{view_after}
use Rattle.kit_lbts.specs.SeatLaws.{IsInWorld}
use Rattle.kit_node.proofs.WorldSteps.{goes_on}
use Rattle.kit_lbts.specs.Agreement.{agreeing_rule}
use Rattle.kit_lbts.proofs.WithAgreement.{collects_agree}
use Rattle.std.specs.Int.{bit_at}
use Rattle.kit_ground.proofs.WorldFacts.{mail_is_of_buffers}
use Rattle.kit_node.proofs.steps.collect.Goals as goal

abbrev P : Type 0
P = Place LbtsView

pub collect-requires-clause-rule : goal.collect-requires-clause-rule
collect-requires-clause-rule g c =
    let r = c.requires in
    collects_agree (g.G.Ground.place c.args.ground.now) c.args.from c.args.word r.from r.other r.word r.numbers

pub returns-clause-world : goal.returns-clause-world
returns-clause-world g c =
    let p : P = g.G.Ground.place c.args.ground.now in
    let i : ℕ = c.args.from in
    let w : ℕ = c.args.word in
    let r = c.requires in
    subst IsInWorld (sym c.collect.ensures.place)
    (goes_on p (Mail p.own.number i w) (λ mail. Collected i w mail) c.collect.result refl (r.from, r.other, r.word, refl) (collects_agree p i w r.from r.other r.word r.numbers) c.collect.ensures.told)

pub returns-clause-inside : goal.returns-clause-inside
returns-clause-inside g c k on =
    let p : P = g.G.Ground.place c.args.ground.now in
    let t = c.collect.ensures.told in
    mail_is_of_buffers agreeing_rule p t.0 t.1 t.2 c.args.from c.args.word k c.requires.from (subst (λ (x : ℕ). bit_at x k ≡ 1) (sym t.3) on)
