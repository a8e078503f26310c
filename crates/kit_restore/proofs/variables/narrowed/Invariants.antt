use Rattle.std.proofs.Common.{◌≡◌, take}
use Rattle.kit_restore.proofs.variables.narrowed.Given as goal

-- the numbers so far
abbrev pub invariant-loop-number : goal.invariant-loop-number
invariant-loop-number l = l.nexts ≡ take l.number-index l.numbers
