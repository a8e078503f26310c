use Rattle.std.proofs.Common.{◌∙◌}
use Rattle.kit_top.specs.declared.command.FederationCommand.TheVariants.{Upto}
use Rattle.kit_top.specs.declared.status.Status.TheVariants.{Done}
use Rattle.kit_top.specs.Causes.{OracleEndCauses, SimulationCauses, spender_of, text_of}
use Rattle.kit_top.proofs.Telling.{oracle_causes, told_by, told_weaker}
use Rattle.kit_top.proofs.answers.tell_upto.Goals as goal

pub returns-in-Ok-clause-told : goal.returns-in-Ok-clause-told
returns-in-Ok-clause-told g c =
    told_by (SimulationCauses (Upto c.args.time) c.args.federation.now) Done c.deref.result.now _ _ c.tell.result (c.in-Ok.ensures.none, c.deref.ensures.value ∙ c.in-Ok.ensures.text) c.tell.ensures.told

pub returns-in-Err-clause-told : goal.returns-in-Err-clause-told
returns-in-Err-clause-told g c =
    let p = c.args.federation.now in
    told_weaker (OracleEndCauses p c.in-Err.end) (SimulationCauses (Upto c.args.time) p) _ _ c.tell_oracle_end.result (oracle_causes p (spender_of (Upto c.args.time) p) (text_of (Upto c.args.time) p) c.in-Err.end c.in-Err.ensures.spent) c.tell_oracle_end.ensures.told
