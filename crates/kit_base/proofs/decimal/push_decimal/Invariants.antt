-- the digits so far stand behind those of the rest
use Rattle.std.proofs.Common.{◌≡◌, ◌≤◌, ◌++◌, length, drop}
use Rattle.std.specs.Fmt.{decimal}
use Rattle.kit_base.proofs.decimal.push_decimal.Given as goal

abbrev pub invariant-loop-rest : goal.invariant-loop-rest
invariant-loop-rest l = record {
  written : decimal l.n ≡ decimal l.rest ++ drop l.at l.digits;
  size : length l.digits ≡ 20;
  within : l.at ≤ 20;
  small : l.rest ≤ l.n;
}

abbrev pub decreases-loop-rest : goal.decreases-loop-rest
decreases-loop-rest l = l.rest
