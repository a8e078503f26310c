-- The fault of a file, by what a walk found.
use Rattle.std.specs.Prelude.{ℕ, List, [], ◌∷◌, codes}
use Rattle.kit_walk.specs.declared.fault.FaultKind.{FaultKind}
use Rattle.kit_walk.specs.declared.fault.FaultKind.TheVariants as kind
use Rattle.kit_walk.specs.declared.fault.FileFault.{FileFault}
use Rattle.kit_walk.specs.declared.fault.FileFault.TheVariants as file

-- the path of the root is a point, and every other begins with none
abbrev pub path_text : List ℕ → List ℕ
path_text [] = codes "."
path_text (x ∷ path) = path

-- the fault of a file, of this kind and at this path
abbrev pub file_fault : FaultKind → List ℕ → FileFault
file_fault kind.Missing path = file.Missing path
file_fault kind.WrongKind path = file.WrongKind path
file_fault kind.OutOfRange path = file.OutOfRange path
file_fault kind.UnknownName path = file.UnknownName path
file_fault kind.Repeated path = file.Repeated path
file_fault kind.SendTooSoon path = file.SendTooSoon path
file_fault kind.NotRegulating path = file.NotRegulating path
