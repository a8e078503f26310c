use Rattle.std.proofs.Common.{sym, ap, ◌∙◌, subst, length}
use Rattle.kit_ground.specs.Floors.{RulesHold, floor_after}
use Rattle.kit_ground.specs.Steps.{place_after}
use Rattle.kit_ground.proofs.Changing.{length-changed}
use Rattle.kit_ground.proofs.plain.PlainFloor.act.Goals as goal

pub invariant_of-self : goal.invariant_of-self
invariant_of-self g c =
    let rule = g.P.Protocol.rule in
    let made = place_after g.E.Event.next c.args.deed in
    let self = c.self.inside in
    let kept = subst (λ f. RulesHold rule (floor_after c.args.at c.args.word made f)) (sym c.self.view_is) c.requires.kept in (
      subst (RulesHold rule) (λ i. record {
        opening = self.opening.value;
        buffers = self.buffers;
        words = (floor_after c.args.at c.args.word made (record { opening = self.opening.value; buffers = self.buffers; words = self.words.items; places = self.places.value; seated = self.seated; steps = self.steps.value })).words;
        places = sym c.note_step.ensures i;
        seated = self.seated;
        steps = sym c.count_step.ensures i;
      }) kept,
      c.self.invariant.1 ∙ sym (ap length c.note_step.ensures ∙ length-changed made self.seated self.places.value),
    )
