use Rattle.std.proofs.Common.{List, ℕ, Option, None, ap, subst}
use Rattle.kit_top.specs.declared.command.Command.TheVariants.{Regions}
use Rattle.kit_top.specs.declared.status.Status.TheVariants.{Done}
use Rattle.kit_top.specs.Causes.{Causes, InputCauses, IsThis, Told, plan_text}
use Rattle.kit_top.proofs.Telling.{accepted_causes, command_causes, input_causes, told_weaker}
use Rattle.kit_top.proofs.commands.answer_regions.Goals as goal

pub returns-in-Ok-clause-told : goal.returns-in-Ok-clause-told
returns-in-Ok-clause-told g c words word =
    let old = c.args.source.now in
    let new = c.read_plan_input.new.source in
    let plan = c.in-Ok.plan in
    let input = c.in-Ok.ensures.input in
    let A = Causes g.S.Source words old new None in
    let P : Option (List ℕ) → Type 0 = λ held. Told A held (g.K.Sink.holds c.tell_regions.new.sink) c.tell_regions.result in
    subst P (ap g.K.Sink.holds c.in-Ok.ensures.untouched)
    (told_weaker (IsThis Done (plan_text plan)) A _ _ c.tell_regions.result
    (λ s text h. command_causes g.S.Source words old new Regions input.0 None word input.1 s text (accepted_causes Regions input.0 None s text (plan, input.2, h)))
    c.tell_regions.ensures.told)

pub returns-in-Err-clause-told : goal.returns-in-Err-clause-told
returns-in-Err-clause-told g c words word =
    let old = c.args.source.now in
    let new = c.read_plan_input.new.source in
    told_weaker (InputCauses g.S.Source old new) (Causes g.S.Source words old new None) _ _ c.in-Err.status (input_causes g.S.Source words old new Regions None word) c.in-Err.ensures.told
