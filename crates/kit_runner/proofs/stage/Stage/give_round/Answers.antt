use Rattle.std.proofs.Common.{ℕ, ◌<◌, length, arith}
use Rattle.kit_ground.proofs.Lists.{at_inside}
use Rattle.kit_runner.proofs.stage.Stage.give_round.Goals as goal

pub returns-clause-ended : goal.returns-clause-ended
returns-clause-ended c all i x at =
    let inside : i < length c.loop-federate.self.members.items = at_inside c.loop-federate.self.members.items i x at in
    let most = c.loop-federate.invariant.stage.many in
    let count = c.count-federate-end.ensures.value in
    let last = c.loop-federate-test.false in
    c.loop-federate.invariant.ended all i (omega (arith, inside, most, count, last)) x at
