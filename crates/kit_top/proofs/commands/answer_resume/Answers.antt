use Rattle.std.proofs.Common.{List, ℕ, Option, None, ap, subst}
use Rattle.kit_rules.specs.Parts.{Parts}
use Rattle.kit_cut.specs.declared.cut.Cut.{Cut}
use Rattle.kit_top.specs.declared.command.Command.TheVariants.{Resume}
use Rattle.kit_top.specs.Causes.{Causes, InputCausesBy, IsBadSaved, ResumingCauses, Told}
use Rattle.kit_top.proofs.Telling.{accepted_causes, command_causes, input_causes, told_weaker}
use Rattle.kit_top.proofs.commands.answer_resume.Goals as goal

pub returns-in-Ok-clause-told : goal.returns-in-Ok-clause-told
returns-in-Ok-clause-told g c words word =
    let old = c.args.source.now in
    let new = c.read_saved_input.new.source in
    let p = c.in-Ok.federation in
    let cut = c.in-Ok.cut in
    let input = c.in-Ok.ensures.input in
    let A = Causes g.S.Source words old new None in
    let P : Option (List ℕ) → Type 0 = λ held. Told A held (g.K.Sink.holds c.tell_resume.new.sink) c.tell_resume.result in
    subst P (ap g.K.Sink.holds c.in-Ok.ensures.untouched)
    (told_weaker (ResumingCauses p cut) A _ _ c.tell_resume.result
    (λ s text h. command_causes g.S.Source words old new Resume input.0 None word input.1 s text (accepted_causes Resume input.0 None s text ((p, cut), input.2, h)))
    c.tell_resume.ensures.told)

pub returns-in-Err-clause-told : goal.returns-in-Err-clause-told
returns-in-Err-clause-told g c words word =
    let old = c.args.source.now in
    let new = c.read_saved_input.new.source in
    told_weaker (InputCausesBy g.S.Source IsBadSaved old new) (Causes g.S.Source words old new None) _ _ c.in-Err.status (input_causes g.S.Source words old new Resume None word) c.in-Err.ensures.told
