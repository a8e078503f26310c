-- The fault that a file is told to have is that of its bytes, or of its walk.
use Rattle.std.proofs.Common.{◌≡◌, ℕ, List, inl, inr, subst, sym}
use Rattle.serde_json.specs.Data.{Data}
use Rattle.kit_walk.specs.declared.fault.WalkEnd.{WalkEnd}
use Rattle.kit_walk.specs.declared.fault.WalkEnd.TheVariants as walk_end
use Rattle.kit_walk.specs.declared.fault.FileFault.{FileFault}
use Rattle.kit_walk.specs.declared.fault.FileFault.TheVariants as file
use Rattle.kit_walk.specs.Reading.{Answer}
use Rattle.kit_walk.specs.Agreement.{Fails}
use Rattle.kit_walk.specs.Answers.{Says, IsNoJson, IsJsonFault, EndsFile, IsFirstFaultOf, IsFaultAtPathOf}

-- a first fault is told as such, whatever its kind
told : {A : Type 0} (walk : Data → Answer A) (bytes : List ℕ) (fault : FileFault) → IsFirstFaultOf walk bytes fault → IsFaultAtPathOf walk bytes fault
told walk bytes file.NotJson first = tt
told walk bytes file.NoMemory first = tt
told walk bytes (file.Missing path) first = first
told walk bytes (file.WrongKind path) first = first
told walk bytes (file.OutOfRange path) first = first
told walk bytes (file.UnknownName path) first = first
told walk bytes (file.Repeated path) first = first
told walk bytes (file.SendTooSoon path) first = first
told walk bytes (file.NotRegulating path) first = first

-- the end of a walk gives the fault of the file
pub walk_faults : {A : Type 0} (walk : Data → Answer A) (bytes : List ℕ) (d : Data) (end : WalkEnd) (fault : FileFault) → Says bytes d → Fails end (walk d) → EndsFile end fault → IsFaultAtPathOf walk bytes fault
walk_faults walk bytes d walk_end.Memory fault says fails ends = subst (IsFaultAtPathOf walk bytes) (sym ends) tt
walk_faults walk bytes d (walk_end.Fault f) fault says fails (inl ends) = subst (IsFaultAtPathOf walk bytes) (sym ends) tt
walk_faults walk bytes d (walk_end.Fault f) fault says fails (inr ends) = told walk bytes fault (d, says, f, fails, ends)

-- so does a text that is none
pub json_faults : {A : Type 0} (walk : Data → Answer A) (bytes : List ℕ) (fault : FileFault) → IsJsonFault bytes fault → IsFaultAtPathOf walk bytes fault
json_faults walk bytes file.NotJson is = tt
json_faults walk bytes file.NoMemory is = tt
json_faults walk bytes (file.Missing path) is = elim is [ ]
json_faults walk bytes (file.WrongKind path) is = elim is [ ]
json_faults walk bytes (file.OutOfRange path) is = elim is [ ]
json_faults walk bytes (file.UnknownName path) is = elim is [ ]
json_faults walk bytes (file.Repeated path) is = elim is [ ]
json_faults walk bytes (file.SendTooSoon path) is = elim is [ ]
json_faults walk bytes (file.NotRegulating path) is = elim is [ ]

-- a text that is told to be none is none
pub no_json : (bytes : List ℕ) (fault : FileFault) → IsJsonFault bytes fault → fault ≡ file.NotJson → IsNoJson bytes
no_json bytes fault is same = subst (IsJsonFault bytes) same is
