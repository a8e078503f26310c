use Rattle.std.proofs.Common.{◌≡◌, ◌∙◌, ◌<◌, List, length, get_or, ap, arith, length-set}
use Rattle.std.proofs.lemmas.List.{get_or_default}
use Rattle.kit_base.specs.declared.message.Message.{Message}
use Rattle.kit_oracle.proofs.Rounds.{with_queue}
use Rattle.kit_cut.specs.declared.cut.Standing.{Standing}
use Rattle.kit_cut.specs.SinceCut.{queue_after_since}
use Rattle.kit_cut.specs.ValidCuts.{standing_at, nobody_stands}
use Rattle.kit_cut.proofs.Posting.{post_step_since}
use Rattle.kit_cut.proofs.postings.post.Goals as goal

pub loop-j-preserved : goal.loop-j-preserved
loop-j-preserved c =
    let cut = c.args.cut.now in
    let j = c.loop-j.j in
    let ds = c.loop-j.desks.items in
    let x = c.index_mut.result.now in
    let inv = c.loop-j.invariant in
    let lt : j < length ds = omega (arith, inv.same) in
    let is : get_or c.as_slice-standings.result.now j c.index-standings-j.result ≡ standing_at cut j =
    ap (λ (ss : List Standing). get_or ss j c.index-standings-j.result) c.as_slice-standings.ensures ∙ get_or_default cut.federates j _ nobody_stands (omega (arith, lt, inv.same, c.requires.each)) in
    let queue : List Message → List Message = λ pending. queue_after_since c.args.mask j pending c.args.message.now x.queue in
    record {
      rest = post_step_since cut c.args.mask c.args.message.now j ds x c.post_at.new.queue lt c.index_mut.ensures.value (c.in_ok-post_at.ensures ∙ ap (λ (s : Standing). queue s.pending) (c.index-standings-j.is ∙ is)) ∙ inv.rest;
      same = length-set ds j (with_queue x c.post_at.new.queue) ∙ inv.same;
    }
