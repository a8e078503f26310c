use Rattle.std.proofs.Common.{◌≡◌, ◌-◌, ◌++◌, take, replicate}
use Rattle.kit_restore.proofs.variables.with_unused.Given as goal

-- the numbers so far, and zeros
abbrev pub invariant-loop-k : goal.invariant-loop-k
invariant-loop-k l = l.vars ≡ take l.k l.numbers ++ replicate (8 - l.k) 0
