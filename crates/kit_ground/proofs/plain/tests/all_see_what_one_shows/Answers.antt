use Rattle.std.proofs.Common.{◌≡◌, ℕ, ◌<◌, length, lit<, sym, ap, ◌∙◌, subst}
use Rattle.kit_ground.specs.Floors.{Floor}
use Rattle.kit_ground.specs.contracts.bare.BareProtocol.TheImpl.{first-value, rule-value}
use Rattle.kit_ground.proofs.PlainSteps.{federates}
use Rattle.kit_ground.proofs.plain.tests.all_see_what_one_shows.Goals as goal

abbrev F : Type 0
F = Floor (Unit {0}) (Unit {0})

pub look-requires-clause-reg : goal.look-requires-clause-reg
look-requires-clause-reg g c =
    let two : length c.stop.new.self.places ≡ 2 = c.stop.ensures.came.many ∙ (c.publish.ensures.came.many ∙ (c.stopped.ensures.came.many ∙ ap (λ (f : F). length f.places) c.in_ok-floor.ensures)) in
    let same = c.stopped-2.ensures.came.seat.federates ∙ (federates rule-value.it first-value.it c.seat.new.self c.seat.ensures.ruled ∙ (ap (λ (f : F). length f.places) c.seat.ensures.seated ∙ two)) in
    (subst (λ (n : ℕ). 0 < n) (sym same) (lit< tt), lit< tt)
