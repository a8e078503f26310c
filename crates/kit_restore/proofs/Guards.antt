-- Reading that goes on past a step that gives a value, or past a test.
use Rattle.std.proofs.Common.{◌≡◌, ℕ, Bool, IsTrue, List, Result, Ok, refl, sym, subst, ◌∙◌}
use Rattle.kit_walk.specs.declared.fault.Fault.{Fault}
use Rattle.kit_walk.specs.declared.fault.FaultKind.{FaultKind}
use Rattle.kit_walk.specs.declared.fault.WalkEnd.{WalkEnd}
use Rattle.kit_walk.specs.declared.fault.WalkEnd.TheVariants as walk_end
use Rattle.kit_walk.specs.Reading.{◌>>=◌, guard}
use Rattle.kit_walk.specs.Agreement.{Fails}

-- what holds of what comes next holds of both, where the step gives a value
pub past : {A B : Type 0} (read : Result A Fault) (next : A → Result B Fault) (P : Result B Fault → Type 0) (x : A) → read ≡ Ok x → P (next x) → P (read >>= next)
past {A} {B} read next P x is h = subst (λ (r : Result A Fault). P (r >>= next)) (sym is) h

-- and where a test holds
pub past_test : {B : Type 0} (kind : FaultKind) (path : List ℕ) (next : Unit {0} → Result B Fault) (P : Result B Fault → Type 0) (found test : Bool) → found ≡ test → IsTrue found → P (next tt) → P (guard test kind path >>= next)
past_test {B} kind path next P found test same holds h = subst (λ (t : Bool). P (guard t kind path >>= next)) (sym holds ∙ same) h

-- a step that fails is the fault of both
fails_first : {A B : Type 0} (read : Result A Fault) (next : A → Result B Fault) (e : WalkEnd) → Fails e read → Fails e (read >>= next)
fails_first read next walk_end.Memory h = tt
fails_first read next (walk_end.Fault f) h = subst (λ r. Fails (walk_end.Fault f) (r >>= next)) (sym h) refl

-- a test that fails is the fault of both
pub stop : {B : Type 0} (kind : FaultKind) (path : List ℕ) (next : Unit {0} → Result B Fault) (found test : Bool) (e : WalkEnd) → found ≡ test → Fails e (guard found kind path) → Fails e (guard test kind path >>= next)
stop {B} kind path next found test e same h = fails_first (guard test kind path) next e (subst (λ (t : Bool). Fails e (guard t kind path)) same h)
