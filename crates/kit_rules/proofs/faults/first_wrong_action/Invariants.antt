-- all before the place are right
use Rattle.std.proofs.Common.{take}
use Rattle.std.specs.List.{All}
use Rattle.kit_rules.specs.Federation.{IsAction}
use Rattle.kit_rules.proofs.faults.first_wrong_action.Given as goal

abbrev pub invariant-loop-k : goal.invariant-loop-k
invariant-loop-k l = All (IsAction l.groups l.vars l.lookahead) (take l.k l.actions)
