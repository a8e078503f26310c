-- The kinds of places: objects, keys, numbers, texts and lists.
use Rattle.std.specs.Prelude.{ℕ, List, [], ◌∷◌, length, Bool, nat_lt, nat_eq, ◌||◌, if◌then◌else◌, Option, Some, None, option_and_then, is_some, Result, Ok}
use Rattle.std.specs.Cmp.Lexicographic.{pointwise}
use Rattle.serde_json.specs.Data.{Data, Items, no_items, item}
use Rattle.serde_json.specs.Find.{get, as_number, as_u64, as_str, as_array, as_object}
use Rattle.kit_walk.specs.declared.fault.FaultKind.TheVariants as kind
use Rattle.kit_walk.specs.declared.fault.Fault.{Fault}
use Rattle.kit_walk.specs.Paths.{key_path}
use Rattle.kit_walk.specs.Reading.{◌>>=◌, fault_at, or_fault, guard}

-- the value itself is an object
unfoldable pub object : Data → Result (Unit {0}) Fault
object d = guard (is_some (as_object d)) kind.WrongKind []

-- whether it has a key
abbrev pub has : List ℕ → Data → Bool
has key d = is_some (get key d)

-- what stands at a key that has to be there
unfoldable pub member : List ℕ → Data → Result Data Fault
member key d = or_fault kind.Missing (key_path key) (get key d)

-- a whole number in a range
unfoldable pub number : List ℕ → ℕ → ℕ → Data → Result ℕ Fault
number key low high d = do
  v ← member key d
  n ← or_fault kind.WrongKind (key_path key) (option_and_then as_u64 (as_number v))
  if nat_lt n low || nat_lt high n then fault_at kind.OutOfRange (key_path key) else Ok n

-- a text
unfoldable pub text : List ℕ → Data → Result (List ℕ) Fault
text key d = do
  v ← member key d
  or_fault kind.WrongKind (key_path key) (as_str v)

-- whether two texts are the same
abbrev pub is_same : List ℕ → List ℕ → Bool
is_same a b = pointwise nat_eq a b

-- the members of an array, in order
abbrev pub data_of : Items → List Data
data_of no_items = []
data_of (item d ds) = d ∷ data_of ds

-- the members of a list that is the value at a key
unfoldable pub list_of : List ℕ → ℕ → ℕ → Data → Result (List Data) Fault
list_of key low high v = do
  ds ← or_fault kind.WrongKind (key_path key) (as_array v)
  if nat_lt (length (data_of ds)) low || nat_lt high (length (data_of ds)) then fault_at kind.OutOfRange (key_path key) else Ok (data_of ds)

-- a list with so many members
unfoldable pub list : List ℕ → ℕ → ℕ → Data → Result (List Data) Fault
list key low high d = do
  v ← member key d
  list_of key low high v

-- a list that may be absent, and is then empty
abbrev pub optional_list : List ℕ → ℕ → Option Data → Result (List Data) Fault
optional_list key high None = Ok []
optional_list key high (Some v) = list_of key 0 high v
