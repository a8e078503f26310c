use Rattle.std.proofs.Common.{refl, subst}
use Rattle.kit_top.specs.declared.status.Status.{Status}
use Rattle.kit_top.specs.Causes.{HasText}
use Rattle.kit_top.proofs.Telling.{told_as}
use Rattle.kit_top.proofs.writing.tell.Goals as goal

pub returns-in-Ok-clause-told : goal.returns-in-Ok-clause-told
returns-in-Ok-clause-told g c = told_as c.args.status c.args.text.now _ _ c.requires c.in-Ok.ensures.whole

pub returns-in-Ok-clause-fault : goal.returns-in-Ok-clause-fault
returns-in-Ok-clause-fault g c e = let P : Status → Type 0 = HasText in absurd (subst P e c.requires)

pub returns-in-Err-clause-told : goal.returns-in-Err-clause-told
returns-in-Err-clause-told g c =
    let front = c.in-Err.ensures.prefix in
    (c.args.status, c.args.text.now, (refl, refl), front.0, front.1, front.2)
