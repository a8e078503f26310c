-- Reading a file place by place: each step gives a value, or the first fault and its path.
use Rattle.std.specs.Prelude.{ℕ, suc, List, [], ◌∷◌, ◌++◌, Bool, true, false, Option, Some, None, Result, Ok, Err}
use Rattle.serde_json.specs.Data.{Data}
use Rattle.kit_walk.specs.declared.fault.FaultKind.{FaultKind}
use Rattle.kit_walk.specs.declared.fault.Fault.{Fault}

-- what reading a place gives: a value, or the first fault
abbrev pub Answer : Type 0 → Type 0
Answer A = Result A Fault

-- one step after another, up to the first fault
infixl 10 ◌>>=◌
abbrev pub ◌>>=◌ : {A B : Type 0} → Result A Fault → (A → Result B Fault) → Result B Fault
(Ok x) >>= f = f x
(Err e) >>= f = Err e

-- a fault at a path
abbrev pub fault_at : {A : Type 0} → FaultKind → List ℕ → Result A Fault
fault_at k path = Err (record { kind = k; path = path })

-- the same, its fault seen from further out
abbrev pub within : {A : Type 0} → List ℕ → Result A Fault → Result A Fault
within front (Ok x) = Ok x
within front (Err f) = Err (record { kind = f.kind; path = front ++ f.path })

-- what is there, where it has to be
abbrev pub or_fault : {A : Type 0} → FaultKind → List ℕ → Option A → Result A Fault
or_fault k path None = fault_at k path
or_fault k path (Some x) = Ok x

-- a test that has to hold
abbrev pub guard : Bool → FaultKind → List ℕ → Result (Unit {0}) Fault
guard true k path = Ok tt
guard false k path = fault_at k path

-- the members of a list in order, numbered from i, each with what those before it came to
abbrev pub each : {S : Type 0} → (ℕ → S → Data → Result S Fault) → ℕ → S → List Data → Result S Fault
each step i s [] = Ok s
each step i s (d ∷ ds) = step i s d >>= λ t. each step (suc i) t ds
