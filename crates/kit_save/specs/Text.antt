-- The text of a saved file.
use Rattle.std.specs.Prelude.{ℕ, List, ◌++◌, codes}
use Rattle.serde_json.specs.Written.{compact_text}
use Rattle.kit_rules.specs.Parts.{Parts}
use Rattle.kit_cut.specs.declared.cut.Cut.{Cut}
use Rattle.kit_save.specs.CutValues.{saved_value}

-- the value as JSON with no space in it, and a line feed
unfoldable pub saved_text : Parts → Cut → List ℕ
saved_text p c = compact_text (saved_value p c) ++ codes "\n"

-- how many bytes it may have: as many as are read of an input
abbrev pub most_saved : ℕ
most_saved = 1048576
