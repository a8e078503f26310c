-- the numbers below the place rise
use Rattle.std.proofs.Common.{ℕ, ◌<◌, get_or}
use Rattle.kit_rules.specs.declared.own.Own.{Own}
use Rattle.kit_cut.proofs.order.numbers_rise.Given as goal

abbrev pub invariant-loop-k : goal.invariant-loop-k
invariant-loop-k l = (i j : ℕ) (d : Own) → i < j → j < l.k → (get_or l.own i d).number < (get_or l.own j d).number
