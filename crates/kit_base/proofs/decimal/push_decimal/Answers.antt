use Rattle.std.proofs.Common.{◌≤◌, ◌∙◌, arith, length-set}
use Rattle.std.proofs.lemmas.Grind.{common_steps}
use Rattle.kit_base.proofs.Digits.{room, step, last}
use Rattle.kit_base.proofs.decimal.push_decimal.Goals as goal

pub overflow_sub-at : goal.overflow_sub-at
overflow_sub-at c = room c.args.n c.loop-rest.rest c.loop-rest.at c.loop-rest.digits (omega arith) c.loop-rest.invariant.small c.loop-rest.invariant.size c.loop-rest.invariant.written

pub loop-rest-preserved : goal.loop-rest-preserved
loop-rest-preserved c =
    let high : 1 ≤ c.loop-rest.at = room c.args.n c.loop-rest.rest c.loop-rest.at c.loop-rest.digits (omega arith) c.loop-rest.invariant.small c.loop-rest.invariant.size c.loop-rest.invariant.written in
    record {
      written = step c.args.n c.loop-rest.rest c.loop-rest.at c.loop-rest.digits (omega arith) c.loop-rest-test.true high c.loop-rest.invariant.within c.loop-rest.invariant.size c.loop-rest.invariant.written;
      size = length-set c.loop-rest.digits _ _ ∙ c.loop-rest.invariant.size;
      within = omega arith;
      small = omega arith;
    }

pub overflow_sub-at-2 : goal.overflow_sub-at-2
overflow_sub-at-2 c = room c.args.n c.loop-rest.rest c.loop-rest.at c.loop-rest.digits (omega arith) c.loop-rest.invariant.small c.loop-rest.invariant.size c.loop-rest.invariant.written

pub returns : goal.returns
returns c =
    let high : 1 ≤ c.loop-rest.at = room c.args.n c.loop-rest.rest c.loop-rest.at c.loop-rest.digits (omega arith) c.loop-rest.invariant.small c.loop-rest.invariant.size c.loop-rest.invariant.written in
    let e = last c.args.n c.loop-rest.rest c.loop-rest.at c.loop-rest.digits c.loop-rest-test.false high c.loop-rest.invariant.within c.loop-rest.invariant.size c.loop-rest.invariant.written in
    grind (arith, common_steps)
