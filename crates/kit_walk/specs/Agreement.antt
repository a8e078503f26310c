-- What a function returned is what reading gives.
use Rattle.std.specs.Prelude.{◌≡◌, ℕ, List, ◌++◌, Result, Ok, Err}
use Rattle.kit_walk.specs.declared.fault.Fault.{Fault}
use Rattle.kit_walk.specs.declared.fault.WalkEnd.{WalkEnd}
use Rattle.kit_walk.specs.declared.fault.WalkEnd.TheVariants as walk_end

-- it ended for want of memory, or by the fault that reading gives
abbrev pub Fails : {Y : Type 0} → WalkEnd → Result Y Fault → Type 0
Fails walk_end.Memory read = Unit {0}
Fails (walk_end.Fault f) read = read ≡ Err f

-- the end with its fault seen from further out; or memory ran out on the way
abbrev pub EndsWithin : List ℕ → WalkEnd → WalkEnd → Type 0
EndsWithin front old walk_end.Memory = Unit {0}
EndsWithin front walk_end.Memory (walk_end.Fault g) = ⊥
EndsWithin front (walk_end.Fault f) (walk_end.Fault g) = g ≡ record { kind = f.kind; path = front ++ f.path }

-- the value, as the view shows it, is the one that reading gives
abbrev pub Gives : {X Y : Type 0} → (X → Y) → Result X WalkEnd → Result Y Fault → Type 0
Gives view (Ok x) read = read ≡ Ok (view x)
Gives view (Err e) read = Fails e read
