-- When a call may answer that it failed, and what it took until then.
use Rattle.std.specs.Prelude.{◌≡◌, ℕ, ◌+◌, ◌-◌, ◌^◌, ◌≤◌, min, List, length, drop, if◌then◌else◌, is_ok, Option, Some, Result, OnErr, IfSome}

-- the count of faults rose, or stands at its last value, which is taken as one that rose
abbrev pub Rose : ℕ → ℕ → Type 0
Rose before now = min (before + 1) (2 ^ 64 - 1) ≤ now

-- the count never falls, and an error comes only where it rose
pub record HasCause {T E : Type 0} (before now : ℕ) (result : Result T E) : Type 0 where
  pub later : before ≤ now
  pub failed : OnErr result (Rose before now)

-- the count rises by one at an error, and at nothing else
abbrev pub CountsFault : {T E : Type 0} → ℕ → ℕ → Result T E → Type 0
CountsFault before now result = now ≡ (if is_ok result then before else min (before + 1) (2 ^ 64 - 1))

-- where the bytes that were left are told: the first n of them were taken
abbrev pub Took : Option (List ℕ) → Option (List ℕ) → ℕ → Type 0
Took old new n = IfSome old (λ xs. (n ≤ length xs) × (new ≡ Some (drop n xs)))

-- where the bytes that were left are told: at most `limit` of them were taken
abbrev pub TookAtMost : Option (List ℕ) → Option (List ℕ) → ℕ → Type 0
TookAtMost old new limit = (n : ℕ) × (n ≤ limit) × Took old new n
