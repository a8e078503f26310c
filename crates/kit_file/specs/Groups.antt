-- The groups, and the federates that are their members.
use Rattle.std.specs.Prelude.{ℕ, ◌^◌, List, [], ◌∷◌, ◌++◌, ◌==◌, if◌then◌else◌, Result, Ok, codes, bit_and, bit_or}
use Rattle.serde_json.specs.Data.{Data}
use Rattle.serde_json.specs.Find.{get, as_str}
use Rattle.kit_rules.specs.Limits.{most_federates, most_groups}
use Rattle.kit_rules.specs.declared.table.Group.{Group}
use Rattle.kit_walk.specs.declared.fault.FaultKind.TheVariants as kind
use Rattle.kit_walk.specs.declared.fault.Fault.{Fault}
use Rattle.kit_walk.specs.Paths.{item_path}
use Rattle.kit_walk.specs.Reading.{◌>>=◌, fault_at, within, or_fault, each}
use Rattle.kit_walk.specs.Places.{object, list, optional_list}
use Rattle.kit_file.specs.Names.{itself, group_name, new_name, position_of}

-- a federate that is named by a text, by its index
unfoldable pub member_of : List (List ℕ) → ℕ → Data → Result ℕ Fault
member_of names bits d = do
  s ← or_fault kind.WrongKind [] (as_str d)
  j ← or_fault kind.UnknownName [] (position_of itself names s)
  if bit_and bits (2 ^ j) == 0 then Ok (bit_or bits (2 ^ j)) else fault_at kind.Repeated []

-- one more member, the i-th of the list members
unfoldable pub member_step : List (List ℕ) → ℕ → ℕ → Data → Result ℕ Fault
member_step names i bits d = within (item_path (codes "members") i) (member_of names bits d)

-- the members of the list members
abbrev pub member_list_of : Data → Result (List Data) Fault
member_list_of d = list (codes "members") 0 most_federates d

-- the list members, as one bit for each federate
unfoldable pub members_of : List (List ℕ) → Data → Result ℕ Fault
members_of names d = do
  ds ← member_list_of d
  each (member_step names) 0 0 ds

-- a group: its name, new among these, and its members
unfoldable pub group_of : List (List ℕ) → List Group → Data → Result Group Fault
group_of names done d = do
  u ← object d
  n ← new_name group_name done (codes "name") d
  members ← members_of names d
  Ok (record { name = n; members = members })

-- one more group, the i-th of the list groups
unfoldable pub group_step : List (List ℕ) → ℕ → List Group → Data → Result (List Group) Fault
group_step names i done d = within (item_path (codes "groups") i) (group_of names done d) >>= λ g. Ok (done ++ g ∷ [])

-- the members of the list groups, which may be absent
abbrev pub group_list_of : Data → Result (List Data) Fault
group_list_of d = optional_list (codes "groups") most_groups (get (codes "groups") d)

-- the list groups
unfoldable pub groups_of : List (List ℕ) → Data → Result (List Group) Fault
groups_of names d = do
  ds ← group_list_of d
  each (group_step names) 0 [] ds
