use Rattle.std.proofs.Common.{◌≡◌, ◌<◌, List, [], ◌∷◌, ◌++◌, length, sym, ap, ◌∙◌, subst, arith, append_assoc, length-append}
use Rattle.std.specs.Prelude.{vec_capacity, vec_len}
use Rattle.kit_node.specs.declared.node.NodeReport.{NodeReport}
use Rattle.kit_replay.specs.Stages.{AreReported, QueueNode}
use Rattle.kit_replay.proofs.Reported.{pushed, reported_more}
use Rattle.kit_replay.proofs.stage.Stage.close.Goals as goal

pub loop-node-preserved : goal.loop-node-preserved
loop-node-preserved c =
    let yielded : List QueueNode = c.loop-node.yielded in
    let n : QueueNode = c.in-Some.node in
    let rest : List QueueNode = c.next.new.self.rest.items in
    let reports : List NodeReport = c.loop-node.reports.items in
    let inv = c.loop-node.invariant in
    let steps = c.in-Some.ensures.steps.0 in
    let all : yielded ++ n ∷ rest ≡ c.args.self.nodes.items = ap (λ (l : List QueueNode). yielded ++ l) (sym steps) ∙ inv.all in
    let less : length yielded < length c.args.self.nodes.items = omega (arith, ap length all, length-append yielded (n ∷ rest)) in
    let room : vec_len c.loop-node.reports < vec_capacity c.loop-node.reports = omega (arith, less, inv.room, inv.reported.many, c.loop-node.reports.ok.0) in
    let is = pushed c.push.result c.push.new.self.items reports (reports ++ c.report.result ∷ []) (vec_capacity c.loop-node.reports) (vec_len c.loop-node.reports) c.push.ensures.full room c.push.ensures.items in
    record {
      reported = subst (λ (l : List NodeReport). AreReported (yielded ++ n ∷ []) l) (sym is) (reported_more yielded reports n c.report.result inv.reported c.report.ensures);
      all = append_assoc yielded (n ∷ []) rest ∙ all;
      room = let r = inv.room in omega (arith, r, c.push.ensures.capacity);
    }
