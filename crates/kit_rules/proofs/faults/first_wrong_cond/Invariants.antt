-- all before the place are right
use Rattle.std.proofs.Common.{take}
use Rattle.std.specs.List.{All}
use Rattle.kit_rules.specs.Federation.{IsCond}
use Rattle.kit_rules.proofs.faults.first_wrong_cond.Given as goal

abbrev pub invariant-loop-k : goal.invariant-loop-k
invariant-loop-k l = All (IsCond l.vars) (take l.k l.conds)
