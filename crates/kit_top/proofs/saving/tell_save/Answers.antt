use Rattle.kit_top.specs.Causes.{OracleEndCauses, SavingCauses}
use Rattle.kit_top.proofs.Telling.{saving_ends, told_weaker}
use Rattle.kit_top.proofs.saving.tell_save.Goals as goal

pub returns-in-Err-clause-told : goal.returns-in-Err-clause-told
returns-in-Err-clause-told g c =
    let p = c.args.federation.now in
    told_weaker (OracleEndCauses p c.in-Err.end) (SavingCauses c.args.time p) _ _ c.tell_oracle_end.result (saving_ends c.args.time p c.in-Err.end c.in-Err.ensures.spent) c.tell_oracle_end.ensures.told
