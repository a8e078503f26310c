-- What reading a file answers.
use Rattle.std.specs.Prelude.{◌≡◌, ℕ, List, Option, Ok}
use Rattle.serde_json.specs.Data.{Data}
use Rattle.kit_rules.specs.Parts.{Parts}
use Rattle.kit_regions.specs.Plan.{Plan}
use Rattle.kit_walk.specs.Answers.{Says, IsFirstFaultOf, IsFaultAtPathOf}
use Rattle.kit_walk.specs.declared.fault.FileFault.{FileFault}
use Rattle.kit_file.specs.Walk.{walk, plan_walk}

-- the bytes are a JSON text that the walk accepts, and this is its federation
abbrev pub IsAccepted : List ℕ → Parts → Type 0
IsAccepted bytes p = (d : Data) × Says bytes d × (walk d ≡ Ok p)

-- the bytes are a JSON text that the walk accepts, and this is its plan, or it has none
abbrev pub IsAcceptedPlan : List ℕ → Option Plan → Type 0
IsAcceptedPlan bytes plan = (d : Data) × Says bytes d × (plan_walk d ≡ Ok plan)

-- the bytes are a JSON text that the walk refuses, and this is its first fault
abbrev pub IsFirstFault : List ℕ → FileFault → Type 0
IsFirstFault = IsFirstFaultOf walk

-- a fault with a path is the walk's first
abbrev pub IsFaultAtPath : List ℕ → FileFault → Type 0
IsFaultAtPath = IsFaultAtPathOf walk
