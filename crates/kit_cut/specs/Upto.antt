-- What the sequential simulation does up to a time.
use Rattle.std.specs.Prelude.{ℕ, List}
use Rattle.std.specs.List.{flat_map}
use Rattle.kit_rules.specs.Parts.{Parts}
use Rattle.kit_rules.specs.Simulation.{lines_of, simulation}
use Rattle.kit_rules.specs.Text.{line_text}
use Rattle.kit_cut.specs.Laws.{blocks_by}

-- the text of the simulation's grants of a time or earlier, with their deliveries
abbrev pub upto_text : Parts → ℕ → List ℕ
upto_text p t = flat_map (line_text p) (lines_of (blocks_by t (simulation p).blocks))
