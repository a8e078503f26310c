-- The regions of a file of version 3, to which federates send.
use Rattle.std.specs.Prelude.{ℕ, ◌^◌, ◌+◌, ◌-◌, List, [], ◌∷◌, ◌++◌, Result, Ok, codes}
use Rattle.serde_json.specs.Data.{Data}
use Rattle.serde_json.specs.Find.{get}
use Rattle.kit_regions.specs.Limits.{most_updates}
use Rattle.kit_regions.specs.declared.region.Range.{Range}
use Rattle.kit_regions.specs.declared.region.Update.{Update}
use Rattle.kit_walk.specs.declared.fault.Fault.{Fault}
use Rattle.kit_walk.specs.Paths.{item_path}
use Rattle.kit_walk.specs.Reading.{◌>>=◌, within, each}
use Rattle.kit_walk.specs.Places.{object, number, optional_list}
use Rattle.kit_file.specs.Names.{itself, update_name, new_name, reference}

-- the key from, of 32 bits and not the last of them
abbrev pub from_of : Data → Result ℕ Fault
from_of d = number (codes "from") 0 (2 ^ 32 - 2) d

-- the key to, which is past from
abbrev pub to_of : ℕ → Data → Result ℕ Fault
to_of from d = number (codes "to") (from + 1) (2 ^ 32 - 1) d

-- a range: from, to
unfoldable pub range_of : Data → Result Range Fault
range_of d = do
  from ← from_of d
  to ← to_of from d
  Ok (record { from = from; to = to })

-- a region of one of these groups, its name new among these regions
unfoldable pub region_of : List (List ℕ) → List Update → Data → Result Update Fault
region_of groups done d = do
  u ← object d
  n ← new_name update_name done (codes "name") d
  g ← reference itself groups (codes "group") d
  range ← range_of d
  Ok (record { name = n; group = g; range = range })

-- one more region, the i-th of the list regions
unfoldable pub region_step : List (List ℕ) → ℕ → List Update → Data → Result (List Update) Fault
region_step groups i done d = within (item_path (codes "regions") i) (region_of groups done d) >>= λ u. Ok (done ++ u ∷ [])

-- the members of the list regions, which may be absent
abbrev pub region_list_of : Data → Result (List Data) Fault
region_list_of d = optional_list (codes "regions") most_updates (get (codes "regions") d)

-- the list regions
unfoldable pub regions_of : List (List ℕ) → Data → Result (List Update) Fault
regions_of groups d = do
  ds ← region_list_of d
  each (region_step groups) 0 [] ds
