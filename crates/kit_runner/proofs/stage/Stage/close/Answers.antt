use Rattle.std.proofs.Common.{◌≡◌, ℕ, ◌<◌, List, [], ◌∷◌, ◌++◌, length, map, sym, ap, ◌∙◌, subst, arith, append_assoc, length-append}
use Rattle.std.specs.Prelude.{vec_capacity, vec_len}
use Rattle.std.proofs.lemmas.List.{length-map}
use Rattle.kit_node.specs.declared.node.NodeReport.{NodeReport}
use Rattle.kit_replay.specs.Stages.{AreReported}
use Rattle.kit_replay.proofs.Reported.{pushed}
use Rattle.kit_runner.specs.declared.stage.Member.{Member}
use Rattle.kit_runner.specs.Ends.{end_more}
use Rattle.kit_runner.specs.LockStages.{node_of}
use Rattle.kit_runner.proofs.LockReports.{are_reported_more, at_middle, ends_with_more}
use Rattle.kit_runner.proofs.stage.Stage.close.Goals as goal

pub loop-member-preserved : goal.loop-member-preserved
loop-member-preserved c =
    let yielded : List Member = c.loop-member.yielded in
    let x : Member = c.in-Some.member in
    let rest : List Member = c.next.new.self.rest.items in
    let reports : List NodeReport = c.loop-member.reports.items in
    let inv = c.loop-member.invariant in
    let steps = c.in-Some.ensures.steps.0 in
    let all : yielded ++ x ∷ rest ≡ c.args.self.members.items = ap (λ (l : List Member). yielded ++ l) (sym steps) ∙ inv.all in
    let number : c.me.result ≡ length yielded = c.me.ensures ∙ c.requires.numbers (length yielded) x (at_middle yielded rest c.args.self.members.items x all) in
    let less : length yielded < length c.args.self.members.items = omega (arith, ap length all, length-append yielded (x ∷ rest)) in
    let room : vec_len c.loop-member.reports < vec_capacity c.loop-member.reports = omega (arith, less, inv.room, inv.reported.many, length-map yielded node_of, c.loop-member.reports.ok.0) in
    let is = pushed c.push.result c.push.new.self.items reports (reports ++ c.report.result ∷ []) (vec_capacity c.loop-member.reports) (vec_len c.loop-member.reports) c.push.ensures.full room c.push.ensures.items in
    record {
      ends = ends_with_more yielded x c.loop-member.end c.end_with-end.result c.me.result inv.ends number (c.end_with-end.ensures ∙ ap (end_more c.loop-member.end c.me.result) c.ended.ensures);
      reported = subst (λ (l : List NodeReport). AreReported (map node_of (yielded ++ x ∷ [])) l) (sym is) (are_reported_more yielded x reports c.report.result inv.reported c.report.ensures);
      all = append_assoc yielded (x ∷ []) rest ∙ all;
      room = let r = inv.room in omega (arith, r, c.push.ensures.capacity);
    }
