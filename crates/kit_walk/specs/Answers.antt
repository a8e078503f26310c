-- What reading a file by a walk answers.
use Rattle.std.specs.Prelude.{◌≡◌, ◌⊎◌, ℕ, List, Some, Err, None}
use Rattle.std.specs.Str.{IsUtf8}
use Rattle.serde_json.specs.Data.{Data}
use Rattle.serde_json.specs.Read.{read}
use Rattle.kit_walk.specs.Reading.{Answer}
use Rattle.kit_walk.specs.Faults.{path_text, file_fault}
use Rattle.kit_walk.specs.declared.fault.Fault.{Fault}
use Rattle.kit_walk.specs.declared.fault.WalkEnd.{WalkEnd}
use Rattle.kit_walk.specs.declared.fault.WalkEnd.TheVariants as walk_end
use Rattle.kit_walk.specs.declared.fault.FileFault.{FileFault}
use Rattle.kit_walk.specs.declared.fault.FileFault.TheVariants as file

-- the bytes are a JSON text of this value
abbrev pub Says : List ℕ → Data → Type 0
Says bytes d = IsUtf8 bytes × (read bytes ≡ Some d)

-- the bytes are no JSON text
abbrev pub IsNoJson : List ℕ → Type 0
IsNoJson bytes = IsUtf8 bytes → read bytes ≡ None

-- why bytes gave no value: they are no JSON text, or memory ran out
abbrev pub IsJsonFault : List ℕ → FileFault → Type 0
IsJsonFault bytes file.NotJson = IsNoJson bytes
IsJsonFault bytes file.NoMemory = Unit {0}
IsJsonFault bytes (file.Missing path) = ⊥
IsJsonFault bytes (file.WrongKind path) = ⊥
IsJsonFault bytes (file.OutOfRange path) = ⊥
IsJsonFault bytes (file.UnknownName path) = ⊥
IsJsonFault bytes (file.Repeated path) = ⊥
IsJsonFault bytes (file.SendTooSoon path) = ⊥
IsJsonFault bytes (file.NotRegulating path) = ⊥

-- the fault of a file whose walk ended so; memory may also run out while its path is written
abbrev pub EndsFile : WalkEnd → FileFault → Type 0
EndsFile walk_end.Memory fault = fault ≡ file.NoMemory
EndsFile (walk_end.Fault f) fault = (fault ≡ file.NoMemory) ⊎ (fault ≡ file_fault f.kind (path_text f.path))

-- the bytes are a JSON text that a walk refuses, and this is its first fault
abbrev pub IsFirstFaultOf : {A : Type 0} → (Data → Answer A) → List ℕ → FileFault → Type 0
IsFirstFaultOf walk bytes fault = (d : Data) × Says bytes d × (f : Fault) × (walk d ≡ Err f) × (fault ≡ file_fault f.kind (path_text f.path))

-- a fault with a path is the walk's first
abbrev pub IsFaultAtPathOf : {A : Type 0} → (Data → Answer A) → List ℕ → FileFault → Type 0
IsFaultAtPathOf walk bytes file.NotJson = Unit {0}
IsFaultAtPathOf walk bytes file.NoMemory = Unit {0}
IsFaultAtPathOf walk bytes (file.Missing path) = IsFirstFaultOf walk bytes (file.Missing path)
IsFaultAtPathOf walk bytes (file.WrongKind path) = IsFirstFaultOf walk bytes (file.WrongKind path)
IsFaultAtPathOf walk bytes (file.OutOfRange path) = IsFirstFaultOf walk bytes (file.OutOfRange path)
IsFaultAtPathOf walk bytes (file.UnknownName path) = IsFirstFaultOf walk bytes (file.UnknownName path)
IsFaultAtPathOf walk bytes (file.Repeated path) = IsFirstFaultOf walk bytes (file.Repeated path)
IsFaultAtPathOf walk bytes (file.SendTooSoon path) = IsFirstFaultOf walk bytes (file.SendTooSoon path)
IsFaultAtPathOf walk bytes (file.NotRegulating path) = IsFirstFaultOf walk bytes (file.NotRegulating path)
