use Rattle.std.proofs.Common.{◌≡◌, ℕ, sym, subst, ◌∙◌, arith}
use Rattle.std.proofs.Math.Path.{subst₂}
use Rattle.kit_ground.specs.declared.address.Address.TheVariants.{Register}
use Rattle.kit_ground.specs.declared.address.Reg.{Reg}
use Rattle.kit_ground.specs.declared.place.Deed.TheVariants.{Published}
use Rattle.kit_ground.specs.declared.place.Place.{Place}
use Rattle.kit_ground.specs.Rules.{Keeps}
use Rattle.kit_lbts.specs.declared.view.LbtsView.{LbtsView}
use Rattle.kit_lbts.specs.Agreement.{agreeing_rule}
use Rattle.kit_lbts.specs.Progress.{view_after}
use Rattle.kit_lbts.specs.SeatLaws.{IsInWorld}
use Rattle.kit_fly.proofs.After.{publish_world}
use Rattle.kit_fly.proofs.registers.show.Goals as goal

pub publish-requires-clause-rule : goal.publish-requires-clause-rule
publish-requires-clause-rule g c =
    let p : Place LbtsView = g.G.Ground.place c.args.ground.now in
    let K : Reg → ℕ → Type 0 = λ r w. Keeps agreeing_rule view_after p (Register r) (λ _. Published r w) in
    subst₂ K (sym c.register.ensures.value) (sym c.pack_share.ensures) c.requires.rule

pub returns-clause-world : goal.returns-clause-world
returns-clause-world g c =
    let p : Place LbtsView = g.G.Ground.place c.args.ground.now in
    let K : Reg → ℕ → Type 0 = λ r w. Keeps agreeing_rule view_after p (Register r) (λ _. Published r w) in
    let rule : K c.register.result c.pack_share.result = subst₂ K (sym c.register.ensures.value) (sym c.pack_share.ensures) c.requires.rule in
    let owner : c.register.result.owner ≡ p.own.number = (λ i. (c.register.ensures.value i).owner) ∙ sym c.requires.me in
    let small = c.register.ensures.small in
    subst IsInWorld (sym c.publish.ensures.place) (publish_world p c.register.result c.pack_share.result owner (omega (arith, small)) rule c.publish.ensures.told)
