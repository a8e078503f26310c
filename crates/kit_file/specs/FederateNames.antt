-- The names of the federates.
use Rattle.std.specs.Prelude.{ℕ, List, [], ◌∷◌, ◌++◌, Result, Ok, codes}
use Rattle.serde_json.specs.Data.{Data}
use Rattle.kit_walk.specs.declared.fault.Fault.{Fault}
use Rattle.kit_walk.specs.Paths.{item_path}
use Rattle.kit_walk.specs.Reading.{◌>>=◌, within, each}
use Rattle.kit_walk.specs.Places.{object}
use Rattle.kit_file.specs.Names.{itself, new_name}

-- the name of one federate, after these
unfoldable pub federate_name_of : List (List ℕ) → Data → Result (List ℕ) Fault
federate_name_of done d = do
  u ← object d
  new_name itself done (codes "name") d

-- one more name, of the i-th of the list federates
unfoldable pub federate_name_step : ℕ → List (List ℕ) → Data → Result (List (List ℕ)) Fault
federate_name_step i done d = within (item_path (codes "federates") i) (federate_name_of done d) >>= λ s. Ok (done ++ s ∷ [])

-- the names of all federates, in the order of the list
unfoldable pub federate_names_of : List Data → Result (List (List ℕ)) Fault
federate_names_of ds = each federate_name_step 0 [] ds
