use Rattle.std.proofs.Common.{◌∙◌, arith, length-set}
use Rattle.kit_oracle.proofs.Rounds.{post_step, with_queue}
use Rattle.kit_oracle.proofs.posting.post.Goals as goal

pub loop-j-preserved : goal.loop-j-preserved
loop-j-preserved c =
    let ds = c.loop-j.desks.items in
    let x = c.index_mut.result.now in
    record {
      rest = post_step c.args.mask c.args.message.now c.loop-j.j ds x c.post_at.new.queue (omega (arith, c.loop-j.invariant.same)) c.index_mut.ensures.value c.in_ok-post_at.ensures ∙ c.loop-j.invariant.rest;
      same = length-set ds c.loop-j.j (with_queue x c.post_at.new.queue) ∙ c.loop-j.invariant.same;
    }
