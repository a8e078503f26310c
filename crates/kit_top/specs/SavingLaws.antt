-- What is saved and resumed loses nothing.
use Rattle.std.specs.Prelude.{◌≡◌, ℕ, List, ◌++◌, Option, None}
use Rattle.kit_rules.specs.Parts.{Parts}
use Rattle.kit_rules.specs.Federation.{IsFederation}
use Rattle.kit_rules.specs.Simulation.{spender}
use Rattle.kit_cut.specs.Cuts.{simulation_cut}
use Rattle.kit_top.specs.Saving.{resumed_text}
use Rattle.kit_top.specs.declared.command.Command.TheVariants.{Resume}
use Rattle.kit_top.specs.declared.command.FederationCommand.TheVariants.{Oracle, Save, Upto}
use Rattle.kit_top.specs.declared.status.Status.{Status}
use Rattle.kit_top.specs.declared.status.Status.TheVariants.{Done}
use Rattle.kit_top.specs.Causes.{FederationCauses, FileCauses, Run, text_of}

-- the text up to a time and the text that is resumed from the cut then are the text of the simulation
abbrev pub TextIsCutInTwo : Type 0
TextIsCutInTwo = (p : Parts) (time : ℕ) → IsFederation p → text_of Oracle p ≡ text_of (Upto time) p ++ resumed_text p (simulation_cut p time)

-- so where nobody takes number 16,385 in the simulation, and the bytes are what `save` writes at a time, `resume` causes of these bytes nothing
-- but the rest of the text of `oracle`, after that of `upto`
abbrev pub RestIsResumed : Type 0
RestIsResumed = (p : Parts) (time : ℕ) (bytes : List ℕ) (saving resuming : Option Run) (s : Status) (text : List ℕ)
    → IsFederation p → spender p ≡ None → FederationCauses (Save time) p saving Done bytes → FileCauses Resume bytes resuming s text
    → (s ≡ Done) × (text_of (Upto time) p ++ text ≡ text_of Oracle p)
