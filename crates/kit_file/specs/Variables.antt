-- The variables of a federate.
use Rattle.std.specs.Prelude.{ℕ, ◌^◌, ◌-◌, List, [], ◌∷◌, ◌++◌, Result, Ok, codes}
use Rattle.serde_json.specs.Data.{Data}
use Rattle.serde_json.specs.Find.{get}
use Rattle.kit_rules.specs.Limits.{most_vars}
use Rattle.kit_rules.specs.declared.table.Var.{Var}
use Rattle.kit_walk.specs.declared.fault.Fault.{Fault}
use Rattle.kit_walk.specs.Paths.{item_path}
use Rattle.kit_walk.specs.Reading.{◌>>=◌, within, each}
use Rattle.kit_walk.specs.Places.{object, number, optional_list}
use Rattle.kit_file.specs.Names.{var_name, new_name}

-- the key value, of 32 bits
abbrev pub value_of : Data → Result ℕ Fault
value_of d = number (codes "value") 0 (2 ^ 32 - 1) d

-- one variable, after these
unfoldable pub var_of : List Var → Data → Result Var Fault
var_of done d = do
  u ← object d
  n ← new_name var_name done (codes "name") d
  value ← value_of d
  Ok (record { name = n; value = value })

-- one more variable, the i-th of the list vars
unfoldable pub var_step : ℕ → List Var → Data → Result (List Var) Fault
var_step i done d = within (item_path (codes "vars") i) (var_of done d) >>= λ v. Ok (done ++ v ∷ [])

-- the members of the list vars, which may be absent
abbrev pub var_list_of : Data → Result (List Data) Fault
var_list_of d = optional_list (codes "vars") most_vars (get (codes "vars") d)

-- the list vars
unfoldable pub vars_of : Data → Result (List Var) Fault
vars_of d = do
  ds ← var_list_of d
  each var_step 0 [] ds
