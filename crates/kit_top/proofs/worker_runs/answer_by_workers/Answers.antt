use Rattle.std.proofs.Common.{List, ℕ, Option, Some, ap, refl, sym, subst}
use Rattle.kit_node.specs.declared.node.NodeReport.{NodeReport}
use Rattle.kit_top.specs.Causes.{Run, Told}
use Rattle.kit_top.specs.WorkerRuns.{CanTellBy, IsRunBy, WorkerCauses, WorkerEndCauses}
use Rattle.kit_top.proofs.Telling.{told_weaker}
use Rattle.kit_top.proofs.WorkerTelling.{by_run, can_tell_by}
use Rattle.kit_top.proofs.worker_runs.answer_by_workers.Goals as goal

pub tell_run_end-status-requires : goal.tell_run_end-status-requires
tell_run_end-status-requires g c =
    let p = c.in-Ok.federation in
    let left = c.run_nodes-left.result in
    let r : Run = record { end = left.end; reports = left.nodes.items; floor = left.floor; account = left.account } in
    let Q : List NodeReport → Type 0 = λ nodes. CanTellBy p nodes left.end in
    subst Q (sym c.deref.ensures.value) (can_tell_by c.args.command.now p r c.run_nodes-left.ensures)

pub returns-clause-ended : goal.returns-clause-ended
returns-clause-ended g c =
    let p = c.in-Ok.federation in
    let command = c.args.command.now in
    let its = c.in-Ok.ensures.federation in
    let left = c.run_nodes-left.result in
    let r : Run = record { end = left.end; reports = left.nodes.items; floor = left.floor; account = left.account } in
    let is : IsRunBy command p r = c.run_nodes-left.ensures in
    let A = WorkerCauses g.S.Source command c.args.source.now c.federation_for.new.source (Some r) in
    let P : Option (List ℕ) → Type 0 = λ held. Told A held (g.K.Sink.holds c.tell_run_end-status.new.sink) c.tell_run_end-status.result in
    record {
      run = Some r;
      replayed = (p, its, is);
      left = (refl, refl, refl);
      told = subst P (ap g.K.Sink.holds c.in-Ok.ensures.untouched)
          (told_weaker (WorkerEndCauses command p left.end) A _ _ c.tell_run_end-status.result
          (λ s text h. by_run g.S.Source command c.args.source.now c.federation_for.new.source p (Some r) its s text (is, h)) c.tell_run_end-status.ensures.told);
    }
