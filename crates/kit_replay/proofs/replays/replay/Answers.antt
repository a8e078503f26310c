use Rattle.std.proofs.Common.{◌≡◌, ℕ, List, Some, Option, sym, ◌∙◌, subst}
use Rattle.kit_rules.specs.Parts.{Parts}
use Rattle.kit_node.specs.declared.ends.End.{End}
use Rattle.kit_node.specs.declared.node.NodeReport.{NodeReport}
use Rattle.kit_replay.specs.declared.stage.Stage.{Stage}
use Rattle.kit_replay.specs.Replays.{IsReplay, IsReplayed, LbtsFloor}
use Rattle.kit_replay.proofs.Ending.{closes, ends_badly}
use Rattle.kit_replay.proofs.replays.replay.Goals as goal
use Rattle.kit_replay.proofs.replays.replay.Goals.{in-Some, in-None}

-- with the end and the floor that are handed out
handed_out : (p : Parts) (schedule : List ℕ) (limit : ℕ) (end given : End) (reports : List NodeReport) (floor : Option LbtsFloor) (s : Stage) → given ≡ end → floor ≡ Some s.floor
    → IsReplay p schedule limit end reports s.floor → IsReplayed p schedule limit given reports floor
handed_out p schedule limit end given reports floor s end_is floor_is r =
    subst (λ (e : End). IsReplayed p schedule limit e reports floor) (sym end_is) (subst (λ (o : Option LbtsFloor). IsReplayed p schedule limit end reports o) (sym floor_is) r)

pub returns : goal.returns
returns c =
    let p : Parts = c.args.federation.now in
    let schedule : List ℕ = c.args.schedule.now in
    let limit : ℕ = c.args.rounds in
    let s : Stage = c.run.new.self in
    let reports : List NodeReport = c.close.result.nodes.items in
    elim c.match-run.branch [
      | in-Some w ↦ handed_out p schedule limit w.in-Some.end c.close.result.end reports c.close.result.floor s (c.close.ensures.end ∙ w.end-is) c.close.ensures.floor
          (ends_badly p limit schedule w.in-Some.end s (w.in-Some.ensures limit c.in-Ok.ensures) c.close.ensures.ruled reports c.close.ensures.nodes)
      | in-None w ↦ handed_out p schedule limit w.closing_end-end.result c.close.result.end reports c.close.result.floor s (c.close.ensures.end ∙ w.end-is) c.close.ensures.floor
          (closes p limit schedule s (w.in-None.ensures limit c.in-Ok.ensures) c.close.ensures.ruled reports c.close.ensures.nodes w.closing_end-end.result w.closing_end-end.ensures)
    ]
