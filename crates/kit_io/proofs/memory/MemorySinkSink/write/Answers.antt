use Rattle.std.proofs.Common.{rules, arith}
use Rattle.std.proofs.lemmas.Grind.{common_steps}
use Rattle.kit_io.proofs.memory.MemorySinkSink.write.Goals as goal

pub returns-then-failing-clause-gives : goal.returns-then-failing-clause-gives
returns-then-failing-clause-gives c =
    rw (← c.self.view_is) (record {
      fails = grind (arith, common_steps);
      takes = search rules;
      room = search rules;
      pace = search rules;
      counts = search rules;
    })
