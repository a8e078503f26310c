use Rattle.std.proofs.Common.{arith}
use Rattle.kit_rules.specs.declared.table.Var.{Var}
use Rattle.kit_rules.proofs.Opening.{put_value}
use Rattle.kit_rules.proofs.fed_state.opening_values.Goals as goal

pub loop-i-preserved : goal.loop-i-preserved
loop-i-preserved c =
    rw c.loop-i.invariant (put_value (λ (v : Var). v.value) c.args.vars.now c.loop-i.i c.index-vars-i.result (omega arith) (omega arith) c.index-vars-i.is)
