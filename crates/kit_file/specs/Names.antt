-- Names: where one is given, and where one is referred to.
use Rattle.std.specs.Prelude.{ℕ, List, Bool, if◌then◌else◌, Option, Result, Ok}
use Rattle.std.specs.List.{list_any, position}
use Rattle.serde_json.specs.Data.{Data}
use Rattle.kit_rules.specs.declared.table.Var.{Var}
use Rattle.kit_rules.specs.declared.table.Group.{Group}
use Rattle.kit_regions.specs.declared.region.Update.{Update}
use Rattle.kit_rules.specs.Names.{is_name}
use Rattle.kit_walk.specs.declared.fault.FaultKind.TheVariants as kind
use Rattle.kit_walk.specs.declared.fault.Fault.{Fault}
use Rattle.kit_walk.specs.Paths.{key_path}
use Rattle.kit_walk.specs.Reading.{◌>>=◌, fault_at, or_fault}
use Rattle.kit_walk.specs.Places.{text, is_same}

-- a name, of itself
abbrev pub itself : List ℕ → List ℕ
itself s = s

-- the name of a variable
abbrev pub var_name : Var → List ℕ
var_name v = v.name

-- the name of a group
abbrev pub group_name : Group → List ℕ
group_name g = g.name

-- the name of an update region
abbrev pub update_name : Update → List ℕ
update_name u = u.name

-- a text of the form of a name
unfoldable pub name : List ℕ → Data → Result (List ℕ) Fault
name key d = do
  s ← text key d
  if is_name s then Ok s else fault_at kind.OutOfRange (key_path key)

-- whether the name is that of one of those before
abbrev pub is_given : {X : Type 0} → (X → List ℕ) → List X → List ℕ → Bool
is_given name_of done s = list_any (λ x. is_same (name_of x) s) done

-- a name that none before has
abbrev pub fresh : {X : Type 0} → (X → List ℕ) → List X → List ℕ → List ℕ → Result (List ℕ) Fault
fresh name_of done key s = if is_given name_of done s then fault_at kind.Repeated (key_path key) else Ok s

-- a name that is given, where others were given before
unfoldable pub new_name : {X : Type 0} → (X → List ℕ) → List X → List ℕ → Data → Result (List ℕ) Fault
new_name name_of done key d = do
  s ← name key d
  fresh name_of done key s

-- the index of what a text names
abbrev pub position_of : {X : Type 0} → (X → List ℕ) → List X → List ℕ → Option ℕ
position_of name_of xs s = position (λ x. is_same (name_of x) s) xs

-- a name that is referred to, by its index
unfoldable pub reference : {X : Type 0} → (X → List ℕ) → List X → List ℕ → Data → Result ℕ Fault
reference name_of xs key d = do
  s ← text key d
  or_fault kind.UnknownName (key_path key) (position_of name_of xs s)
