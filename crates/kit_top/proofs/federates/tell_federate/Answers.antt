use Rattle.std.proofs.Common.{◌∙◌, List, ℕ, subst}
use Rattle.kit_top.specs.Causes.{IsThis, Told}
use Rattle.kit_top.proofs.federates.tell_federate.Goals as goal

pub returns-in-Ok-clause-told : goal.returns-in-Ok-clause-told
returns-in-Ok-clause-told g c =
    let T : List ℕ → Type 0 = λ text. Told (IsThis c.args.status text) (g.K.Sink.holds c.args.sink.now) (g.K.Sink.holds c.tell.new.sink) c.tell.result in
    subst T (c.deref.ensures.value ∙ c.in-Ok.ensures) c.tell.ensures.told
