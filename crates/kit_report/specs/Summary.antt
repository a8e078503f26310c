-- The summary of a history.
use Rattle.std.specs.Prelude.{ℕ, Bool, true, false, List, ◌++◌, codes, decimal, count_by}
use Rattle.kit_base.specs.declared.history.Line.{Line}
use Rattle.kit_base.specs.declared.history.Line.TheVariants.{Deliver, Grant}
use Rattle.kit_rules.specs.Parts.{Parts}
use Rattle.kit_rules.specs.Simulation.{lines_of, closing_vars, simulation}
use Rattle.kit_rules.specs.Text.{closings_text}

abbrev pub is_grant : Line → Bool
is_grant (Deliver d i m) = false
is_grant (Grant t i) = true

abbrev pub is_delivery : Line → Bool
is_delivery (Deliver d i m) = true
is_delivery (Grant t i) = false

-- a word and a number
abbrev pub number_line : List ℕ → ℕ → List ℕ
number_line word number = word ++ codes " " ++ decimal number ++ codes "\n"

-- the number of the federation, how many grants and deliveries the lines have, and the closing variables
abbrev pub summary_text : ℕ → Parts → List Line → List (List ℕ) → List ℕ
summary_text number p lines vars =
    number_line (codes "trial") number
    ++ number_line (codes "grants") (count_by is_grant lines)
    ++ number_line (codes "deliveries") (count_by is_delivery lines)
    ++ closings_text p.federates vars

-- the summary of the sequential simulation
abbrev pub simulation_summary : ℕ → Parts → List ℕ
simulation_summary number p = summary_text number p (lines_of (simulation p).blocks) (closing_vars (simulation p))
