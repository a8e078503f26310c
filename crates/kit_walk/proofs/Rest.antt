-- A loop over the members of a list.
use Rattle.std.proofs.Common.{ℕ, List, map, drop, Result}
use Rattle.serde_json.specs.Data.{Data}
use Rattle.serde_json.specs.View.{view}
use Rattle.serde_json.specs.declared.value.Value.{Value}
use Rattle.kit_walk.specs.declared.fault.Fault.{Fault}
use Rattle.kit_walk.specs.Reading.{each}

-- what is left from the i-th on
abbrev pub rest : {S : Type 0} → (ℕ → S → Data → Result S Fault) → ℕ → S → List Value → Result S Fault
rest step i s vs = each step i s (map view (drop i vs))
