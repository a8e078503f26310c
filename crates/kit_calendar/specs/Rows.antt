-- Rows of entries that share one list of places.
use Rattle.std.specs.Prelude.{◌≤◌, ℕ, ◌+◌, Bool, ◌&&◌, nat_lt, List, [], ◌∷◌, ◌++◌, length, take, drop, map, slice_index_or}
use Rattle.std.specs.Coded.{le_prop}
use Rattle.std.specs.List.{AllByRecursion, AllByRecursion-prop, IsDistinct, IsDistinct-prop}
use Rattle.kit_queue.specs.declared.entry.Entry.{Entry}
use Rattle.kit_calendar.specs.declared.row.Row.{Row}

-- the entries of a row
abbrev pub row_of : List Entry → Row → List Entry
row_of places r = take r.len (drop r.start places)

-- the entries of each row
abbrev pub lists : List Entry → List Row → List (List Entry)
lists places rows = map (row_of places) rows

-- the entries of some lists, one list after another
abbrev pub joined : List (List Entry) → List Entry
joined [] = []
joined (l ∷ ls) = l ++ joined ls

-- a row has no more entries than room, and its room is among the places
abbrev pub IsWithin : ℕ → Row → Type 0
IsWithin n r = (r.len ≤ r.room) × (r.start + r.room ≤ n)

-- each row's room is among the places
abbrev pub AreWithin : ℕ → List Row → Type 0
AreWithin n rows = AllByRecursion (IsWithin n) rows

-- there is one proof of that at most
pub AreWithin-prop : (n : ℕ) (rows : List Row) → IsProp (AreWithin n rows)
AreWithin-prop n rows = AllByRecursion-prop (IsWithin n) (λ r. hlevel le_prop) rows

-- whether two rows have a place in common
abbrev pub shares_place : Row → Row → Bool
shares_place r s = nat_lt s.start (r.start + r.room) && nat_lt r.start (s.start + s.room)

-- no two rows have a place in common
abbrev pub AreApart : List Row → Type 0
AreApart rows = IsDistinct shares_place rows

-- there is one proof of that at most
pub AreApart-prop : (rows : List Row) → IsProp (AreApart rows)
AreApart-prop rows = IsDistinct-prop shares_place rows

-- where the entries of the i-th list begin among the joined ones
abbrev pub offset : List (List Entry) → ℕ → ℕ
offset ls i = length (joined (take i ls))

-- the i-th list, or none where there is none
abbrev pub list_at : List (List Entry) → ℕ → List Entry
list_at ls i = slice_index_or ls i []

-- the rows, one right behind the other from a place on
abbrev pub packed : ℕ → List Row → List Row
packed start [] = []
packed start (r ∷ rs) = record { start = start; len = r.len; room = r.len } ∷ packed (start + r.len) rs
