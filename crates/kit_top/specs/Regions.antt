-- What a file with regions comes to.
use Rattle.std.specs.Prelude.{◌≡◌, ℕ, List, Some}
use Rattle.kit_rules.specs.Need.{need_of}
use Rattle.kit_rules.specs.Parts.{Parts}
use Rattle.kit_rules.specs.Simulation.{simulation, spender}
use Rattle.kit_rules.specs.Text.{simulation_text}
use Rattle.kit_regions.specs.Limits.{IsPlan}
use Rattle.kit_regions.specs.Needs.{regional_need}
use Rattle.kit_regions.specs.Plan.{Plan}
use Rattle.kit_regions.specs.Regional.{regional_simulation, regional_spender}
use Rattle.kit_regions.specs.Text.{regional_text}
use Rattle.kit_file.specs.Answers.{IsAccepted, IsAcceptedPlan}

-- a federation's simulation is that of a plan, with its text, its needs, and the federate that takes number 16,385
pub record IsSimulatedAs (p : Parts) (plan : Plan) : Type 0 where
  pub simulated : simulation p ≡ regional_simulation plan
  pub told : simulation_text p ≡ regional_text plan
  pub needs : (i : ℕ) → need_of p i ≡ regional_need plan i
  pub spends : spender p ≡ regional_spender plan

-- so is that of the federation of a file, where the file has a plan
abbrev pub PlansAreSimulated : Type 0
PlansAreSimulated = (bytes : List ℕ) (p : Parts) (plan : Plan) → IsPlan plan → IsAccepted bytes p → IsAcceptedPlan bytes (Some plan) → IsSimulatedAs p plan
