-- What a saved file says: its federation, and its cut.
use Rattle.std.specs.Prelude.{◌≡◌, ℕ, List, Ok}
use Rattle.serde_json.specs.Data.{Data}
use Rattle.kit_rules.specs.Parts.{Parts}
use Rattle.kit_cut.specs.declared.cut.Cut.{Cut}
use Rattle.kit_walk.specs.Reading.{Answer, ◌>>=◌}
use Rattle.kit_walk.specs.Answers.{Says, IsFaultAtPathOf}
use Rattle.kit_walk.specs.declared.fault.FileFault.{FileFault}
use Rattle.kit_file.specs.Walk.{walk}
use Rattle.kit_restore.specs.CutWalk.{cut_of}

-- the walk of a federation file, and then that of its key cut
unfoldable pub saved_walk : Data → Answer (Parts × Cut)
saved_walk d = do
  p ← walk d
  c ← cut_of p d
  Ok (p, c)

-- the bytes are a JSON text that both walks accept, and this is what they find
abbrev pub IsSaved : List ℕ → Parts × Cut → Type 0
IsSaved bytes saved = (d : Data) × Says bytes d × (saved_walk d ≡ Ok saved)

-- a fault with a path is the first of both walks
abbrev pub IsSavedFault : List ℕ → FileFault → Type 0
IsSavedFault = IsFaultAtPathOf saved_walk
