-- all before the place are right
use Rattle.std.proofs.Common.{◌≢◌, take}
use Rattle.std.specs.List.{All, AllPairs}
use Rattle.kit_rules.specs.declared.table.Group.{Group}
use Rattle.kit_rules.specs.Federation.{IsGroup}
use Rattle.kit_rules.proofs.faults.first_wrong_group.Given as goal

abbrev pub invariant-loop-k : goal.invariant-loop-k
invariant-loop-k l = record {
  each : All (IsGroup l.federates) (take l.k l.groups);
  differ : AllPairs (λ (a b : Group). a.name ≢ b.name) (take l.k l.groups);
}
