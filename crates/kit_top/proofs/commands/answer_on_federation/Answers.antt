use Rattle.std.proofs.Common.{List, ℕ, Option, None, ap, subst}
use Rattle.kit_top.specs.declared.command.Command.TheVariants.{OnFederation}
use Rattle.kit_top.specs.Causes.{Causes, EndsWith, FederationCauses, InputCauses, IsFederationRun, IsRun}
use Rattle.kit_top.proofs.Telling.{accepted_causes, command_causes, ends_empty, ends_weaker, input_causes, told_weaker}
use Rattle.kit_top.proofs.commands.answer_on_federation.Goals as goal

pub returns-in-Ok-clause-told : goal.returns-in-Ok-clause-told
returns-in-Ok-clause-told g c words word =
    let old = c.args.source.now in
    let new = c.read_input.new.source in
    let asked = c.args.command.now in
    let command = OnFederation asked in
    let p = c.in-Ok.federation in
    let input = c.in-Ok.ensures.input in
    let A = Causes g.S.Source words old new in
    let R = IsRun g.S.Source words old new in
    let P : Option (List ℕ) → Type 0 = λ held. EndsWith A R held (g.K.Sink.holds c.tell_federation.new.sink) c.tell_federation.result in
    subst P (ap g.K.Sink.holds c.in-Ok.ensures.untouched)
    (ends_weaker (FederationCauses asked p) A (IsFederationRun asked p) R _ _ c.tell_federation.result
    (λ run s text h. command_causes g.S.Source words old new command input.0 run word input.1 s text (accepted_causes command input.0 run s text (p, input.2, h)))
    (λ r h. (command, word, input.0, input.1, (p, input.2, h))) c.tell_federation.ensures.told)

pub returns-in-Err-clause-told : goal.returns-in-Err-clause-told
returns-in-Err-clause-told g c words word =
    let old = c.args.source.now in
    let new = c.read_input.new.source in
    let A = Causes g.S.Source words old new in
    let e = c.empty.ensures in
    ends_empty A (IsRun g.S.Source words old new) _ _ c.empty.result c.in-Err.status e.status e.nodes e.floor e.account
    (told_weaker (InputCauses g.S.Source old new) (A None) _ _ c.in-Err.status (input_causes g.S.Source words old new (OnFederation c.args.command.now) None word) c.in-Err.ensures.told)
