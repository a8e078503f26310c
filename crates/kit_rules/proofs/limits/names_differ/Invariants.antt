-- the names below the place differ
use Rattle.std.proofs.Common.{◌≡◌, ℕ, ◌<◌, get_or}
use Rattle.kit_rules.proofs.limits.names_differ.Given as goal

abbrev pub invariant-loop-i : goal.invariant-loop-i
invariant-loop-i g l = (j k : ℕ) (d : _) → j < k → k < l.i → g.T.Named.name_of (get_or l.items j d) ≡ g.T.Named.name_of (get_or l.items k d) → ⊥
