-- The parts of a replay that ends Done, merged: they are the sequential simulation.
use Rattle.std.specs.Prelude.{◌≡◌, ℕ, List, length, map}
use mathlib.Core.Option.{some}
use lib.ListN.{get_elem?}
use Rattle.kit_base.specs.declared.history.Line.{Line}
use Rattle.kit_base.specs.declared.history.Part.{Part}
use Rattle.kit_rules.specs.Federation.{IsFederation}
use Rattle.kit_rules.specs.Merging.{ArePartsOf, IsMerged, vars_in}
use Rattle.kit_rules.specs.Parts.{Parts}
use Rattle.kit_rules.specs.Simulation.{Block, closing_vars, lines_of, simulation}
use Rattle.kit_rules.specs.Text.{history_text, simulation_text}
use Rattle.kit_model.specs.Journals.{lines_told}
use Rattle.kit_node.specs.declared.node.NodeReport.{NodeReport}
use Rattle.kit_replay.specs.Reports.{AreWholeParts}

-- each part is what a report tells: the deliveries and grants of its journal, and its variables
pub record AreToldParts (reports : List NodeReport) (parts : List Part) : Type 0 where
  pub many : length parts ≡ length reports
  pub each : (i : ℕ) (r : NodeReport) (q : Part) → get_elem? reports i ≡ some r → get_elem? parts i ≡ some q
      → (q.lines ≡ lines_told i r.journal.entries) × (q.vars ≡ r.vars)

-- lines and variables that parts have, merged
pub record AreMerged (parts : List Part) (lines : List Line) (vars : List (List ℕ)) : Type 0 where
  pub lines_are : (blocks : List (List Block)) → ArePartsOf parts blocks → IsMerged blocks lines
  pub vars_are : vars ≡ map vars_in parts

-- those of the sequential simulation, with its text
pub record AreSimulated (p : Parts) (lines : List Line) (vars : List (List ℕ)) : Type 0 where
  pub lines_are : lines ≡ lines_of (simulation p).blocks
  pub vars_are : vars ≡ closing_vars (simulation p)
  pub text_is : history_text p lines vars ≡ simulation_text p

-- whole parts of a federation's federates, merged, are the simulation
abbrev pub WholePartsMerge : Type 0
WholePartsMerge = (p : Parts) → IsFederation p → (reports : List NodeReport) (parts : List Part) (lines : List Line) (vars : List (List ℕ))
    → AreWholeParts p reports → AreToldParts reports parts → AreMerged parts lines vars → AreSimulated p lines vars
