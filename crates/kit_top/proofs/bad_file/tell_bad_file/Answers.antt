use Rattle.std.proofs.Common.{◌∙◌, refl}
use Rattle.kit_top.specs.declared.status.Status.TheVariants.{BadFile}
use Rattle.kit_top.specs.Causes.{IsTheFault}
use Rattle.kit_top.proofs.Telling.{told_by}
use Rattle.kit_top.proofs.bad_file.tell_bad_file.Goals as goal

pub returns-in-Ok-clause-told : goal.returns-in-Ok-clause-told
returns-in-Ok-clause-told g c =
    told_by (IsTheFault c.args.fault) (BadFile c.args.fault) c.deref.result.now _ _ c.tell.result (c.in-Ok.ensures.named, (refl, c.deref.ensures.value ∙ c.in-Ok.ensures.line)) c.tell.ensures.told
