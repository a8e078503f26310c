-- Laws of cuts.
use Rattle.std.specs.Prelude.{◌≡◌, ℕ, nat_le, List, ◌++◌, filter, find, None}
use Rattle.kit_rules.specs.Parts.{Parts}
use Rattle.kit_rules.specs.Federation.{IsFederation}
use Rattle.kit_rules.specs.Simulation.{Block, simulation, closing_vars, is_spent}
use Rattle.kit_cut.specs.Cuts.{world_by, simulation_cut}
use Rattle.kit_cut.specs.ValidCuts.{IsValidCut}
use Rattle.kit_cut.specs.Resuming.{resumed}

-- the grants of a time or earlier
abbrev pub blocks_by : ℕ → List Block → List Block
blocks_by t bs = filter (λ (b : Block). nat_le b.time t) bs

-- the simulation up to a time and the simulation resumed from its cut are the simulation
pub record IsCutInTwo (p : Parts) (t : ℕ) : Type 0 where
  pub upto : (world_by p t).blocks ≡ blocks_by t (simulation p).blocks
  pub blocks : (simulation p).blocks ≡ blocks_by t (simulation p).blocks ++ (resumed p (simulation_cut p t)).blocks
  pub messages : (simulation p).messages ≡ (world_by p t).messages ++ (resumed p (simulation_cut p t)).messages
  pub vars : closing_vars (simulation p) ≡ closing_vars (resumed p (simulation_cut p t))

-- this holds of every federation and every time
abbrev pub SimulationIsCutInTwo : Type 0
SimulationIsCutInTwo = (p : Parts) → IsFederation p → (t : ℕ) → IsCutInTwo p t

-- where no number 16,385 is taken up to a time, the cut of the simulation then is valid
abbrev pub CutsAreValid : Type 0
CutsAreValid = (p : Parts) → IsFederation p → (t : ℕ) → find is_spent (world_by p t).messages ≡ None → IsValidCut p (simulation_cut p t)
