use Rattle.std.proofs.Common.{arith}
use Rattle.std.proofs.lemmas.Grind.{common_steps}
use Rattle.kit_io.proofs.memory.Schedule.begin.Goals as goal

pub returns-clause-listed : goal.returns-clause-listed
returns-clause-listed c =
    let e = rw c.deref.ensures.value at c.contains.ensures.cases in
    grind (arith, common_steps, e)
