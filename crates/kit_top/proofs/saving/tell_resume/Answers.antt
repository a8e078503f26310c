use Rattle.std.proofs.Common.{◌∙◌}
use Rattle.kit_cut.specs.Resuming.{resumed_spender}
use Rattle.kit_top.specs.declared.status.Status.TheVariants.{Done}
use Rattle.kit_top.specs.Causes.{OracleEndCauses, ResumingCauses}
use Rattle.kit_top.specs.Saving.{resumed_text}
use Rattle.kit_top.proofs.Telling.{oracle_causes, told_by, told_weaker}
use Rattle.kit_top.proofs.saving.tell_resume.Goals as goal

pub returns-in-Ok-clause-told : goal.returns-in-Ok-clause-told
returns-in-Ok-clause-told g c =
    told_by (ResumingCauses c.args.federation.now c.args.cut.now) Done c.deref.result.now _ _ c.tell.result (c.in-Ok.ensures.none, c.deref.ensures.value ∙ c.in-Ok.ensures.text) c.tell.ensures.told

pub returns-in-Err-clause-told : goal.returns-in-Err-clause-told
returns-in-Err-clause-told g c =
    let p = c.args.federation.now in
    let cut = c.args.cut.now in
    told_weaker (OracleEndCauses p c.in-Err.end) (ResumingCauses p cut) _ _ c.tell_oracle_end.result (oracle_causes p (resumed_spender p cut) (resumed_text p cut) c.in-Err.end c.in-Err.ensures.spent) c.tell_oracle_end.ensures.told
