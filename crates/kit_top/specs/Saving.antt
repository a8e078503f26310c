-- What is saved of a simulation, and what is resumed.
use Rattle.std.specs.Prelude.{◌≡◌, ◌≤◌, ℕ, List, length, None, codes}
use Rattle.kit_rules.specs.Parts.{Parts}
use Rattle.kit_rules.specs.Simulation.{lines_of, closing_vars}
use Rattle.kit_rules.specs.Text.{history_text}
use Rattle.kit_cut.specs.declared.cut.Cut.{Cut}
use Rattle.kit_cut.specs.Cuts.{simulation_cut, spender_by}
use Rattle.kit_cut.specs.Resuming.{resumed}
use Rattle.kit_restore.specs.Saved.{IsSaved}
use Rattle.kit_save.specs.Text.{saved_text, most_saved}

-- the saved file of a federation at a time: the federation, with the cut of its simulation then
abbrev pub save_text : Parts → ℕ → List ℕ
save_text p time = saved_text p (simulation_cut p time)

-- the text of the simulation that goes on from a cut, with the closing variables
abbrev pub resumed_text : Parts → Cut → List ℕ
resumed_text p c = history_text p (lines_of (resumed p c).blocks) (closing_vars (resumed p c))

-- a simulation can be saved at a time: nobody takes number 16,385 up to it, and the file is not too long; then what is read of that file are
-- the federation and the cut
pub record IsSavable (time : ℕ) (p : Parts) : Type 0 where
  pub within : spender_by p time ≡ None
  pub short : length (save_text p time) ≤ most_saved
  pub again : IsSaved (save_text p time) (p, simulation_cut p time)

-- the line of a saved file that would be too long
abbrev pub too_long_text : List ℕ
too_long_text = codes "fault CutTooLong\n"
