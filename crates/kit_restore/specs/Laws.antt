-- What the walk of a cut accepts is a valid cut.
use Rattle.std.specs.Prelude.{◌≡◌, Ok}
use Rattle.serde_json.specs.Data.{Data}
use Rattle.kit_rules.specs.Parts.{Parts}
use Rattle.kit_cut.specs.declared.cut.Cut.{Cut}
use Rattle.kit_cut.specs.ValidCuts.{IsValidCut}
use Rattle.kit_restore.specs.CutWalk.{cut_of}

-- of whatever parts
abbrev pub ReadCutsAreValid : Type 0
ReadCutsAreValid = (p : Parts) (d : Data) (c : Cut) → cut_of p d ≡ Ok c → IsValidCut p c
