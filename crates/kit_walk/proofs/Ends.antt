-- A walk that ended, as seen from further out.
use Rattle.std.proofs.Common.{ℕ, List, Result, refl}
use Rattle.kit_walk.specs.declared.fault.Fault.{Fault}
use Rattle.kit_walk.specs.declared.fault.WalkEnd.{WalkEnd}
use Rattle.kit_walk.specs.declared.fault.WalkEnd.TheVariants as walk_end
use Rattle.kit_walk.specs.Reading.{◌>>=◌, within}
use Rattle.kit_walk.specs.Agreement.{Fails, EndsWithin}

-- it fails there by the same fault
pub fails_within : {A : Type 0} (front : List ℕ) (read : Result A Fault) (old new : WalkEnd) → Fails old read → EndsWithin front old new → Fails new (within front read)
fails_within front read old walk_end.Memory h is = tt
fails_within front read walk_end.Memory (walk_end.Fault g) h is = elim is [ ]
fails_within front read (walk_end.Fault f) (walk_end.Fault g) h is = rw (h, is) refl

-- and what would have come next does not
pub fails_before : {A B : Type 0} (front : List ℕ) (read : Result A Fault) (next : A → Result B Fault) (old new : WalkEnd) → Fails old read → EndsWithin front old new → Fails new (within front read >>= next)
fails_before front read next old walk_end.Memory h is = tt
fails_before front read next walk_end.Memory (walk_end.Fault g) h is = elim is [ ]
fails_before front read next (walk_end.Fault f) (walk_end.Fault g) h is = rw (h, is) refl
