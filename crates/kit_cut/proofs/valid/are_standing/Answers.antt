use Rattle.std.proofs.Common.{◌≡◌, ℕ, get_or, below_more, subst, ◌∙◌}
use Rattle.std.proofs.lemmas.List.{get_or_default}
use Rattle.kit_cut.specs.declared.cut.Standing.{Standing}
use Rattle.kit_cut.specs.ValidCuts.{IsStanding, nobody_stands}
use Rattle.kit_cut.proofs.valid.are_standing.Goals as goal

pub loop-i-preserved : goal.loop-i-preserved
loop-i-preserved c i below =
    let S : Standing → Type 0 = λ s. IsStanding c.args.federation.now c.args.at c.args.nexts.now c.loop-i.i s in
    let P : ℕ → Type 0 = λ i. IsStanding c.args.federation.now c.args.at c.args.nexts.now i (get_or c.args.standings.now i nobody_stands) in
    let is : c.index-standings-i.result ≡ get_or c.args.standings.now c.loop-i.i nobody_stands = c.index-standings-i.is ∙ get_or_default c.args.standings.now c.loop-i.i _ nobody_stands c.loop-i-test.true in
    below_more P c.loop-i.i c.loop-i.invariant (subst S is (c.is_standing.ensures.0 c.if-not-is_standing.false)) i below
