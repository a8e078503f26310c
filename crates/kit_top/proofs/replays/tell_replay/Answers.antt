use Rattle.std.proofs.Common.{List, ℕ, Some, None, refl, sym, subst}
use Rattle.kit_node.specs.declared.node.NodeReport.{NodeReport}
use Rattle.kit_replay.specs.Replays.{IsReplayed}
use Rattle.kit_top.specs.Causes.{CanTell, EndCauses, IsRunOf, ReplayCauses, Run, most_rounds}
use Rattle.kit_top.proofs.Ends.{can_tell}
use Rattle.kit_top.proofs.Telling.{told_weaker}
use Rattle.kit_top.proofs.replays.tell_replay.Goals as goal

pub tell_replay_end-status-requires : goal.tell_replay_end-status-requires
tell_replay_end-status-requires g c =
    let r = c.replay-replayed.result in
    let P : List ℕ → Type 0 = λ turns. IsReplayed c.args.federation.now turns most_rounds r.end r.nodes.items r.floor in
    let Q : List NodeReport → Type 0 = λ nodes. CanTell c.args.federation.now nodes r.end in
    subst Q (sym c.deref.ensures.value)
    (can_tell c.args.federation.now c.args.schedule.now r.end r.nodes.items r.floor c.entries.ensures.short (subst P c.entries.ensures.value c.replay-replayed.ensures))

pub returns-clause-told : goal.returns-clause-told
returns-clause-told g c =
    let p = c.args.federation.now in
    let schedule = c.args.schedule.now in
    let r = c.replay-replayed.result in
    let run : Run = record { end = r.end; reports = r.nodes.items; floor = r.floor; account = None } in
    let P : List ℕ → Type 0 = λ turns. IsReplayed p turns most_rounds r.end r.nodes.items r.floor in
    let is : IsRunOf p schedule run = (subst P c.entries.ensures.value c.replay-replayed.ensures, refl) in
    record {
      run = Some run;
      replayed = is;
      left = (refl, refl, refl);
      told = told_weaker (EndCauses p r.end) (ReplayCauses schedule p (Some run)) _ _ c.tell_replay_end-status.result (λ s text h. (is, h)) c.tell_replay_end-status.ensures.told;
    }
