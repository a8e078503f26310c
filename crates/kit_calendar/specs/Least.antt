-- The least of the entries that pass a test, in the order of keys.
use Rattle.std.specs.Prelude.{◌≡◌, ℕ, ◌+◌, ◌<◌, ◌/◌, Bool, true, false, if◌then◌else◌, List, length, take, slice_index_or, Option, None, Some}
use Rattle.std.specs.List.{AllByRecursion}
use Rattle.kit_base.specs.Order.{is_before}
use Rattle.kit_queue.specs.declared.entry.Entry.{Entry}
use Rattle.kit_calendar.specs.Buckets.{IsFromDay}

-- the test that every entry passes
abbrev pub is_entry : Entry → Bool
is_entry e = true

-- of the first n entries the one at this place passes, and none that passes is before it
pub record IsLeastOf (p : Entry → Bool) (es : List Entry) (n : ℕ) (at : ℕ) (e : Entry) : Type 0 where
  pub within : at < n
  pub stands : e ≡ slice_index_or es at e
  pub passes : p e ≡ true
  pub first : AllByRecursion (λ x. p x ≡ true → is_before x.message e.message ≡ false) (take n es)

-- the least of the first n entries that pass with its place, or none where none passes
abbrev pub IsBestOf : (Entry → Bool) → List Entry → ℕ → Option (ℕ × Entry) → Type 0
IsBestOf p es n None = AllByRecursion (λ x. p x ≡ false) (take n es)
IsBestOf p es n (Some found) = IsLeastOf p es n found.0 found.1

-- the least of the entries that pass with its place, or none where none passes
abbrev pub IsBest : (Entry → Bool) → List Entry → Option (ℕ × Entry) → Type 0
IsBest p es best = IsBestOf p es (length es) best

-- the lesser of the best so far and an entry at its place
abbrev pub lesser_of : Option (ℕ × Entry) → ℕ → Entry → Option (ℕ × Entry)
lesser_of None at e = Some (at, e)
lesser_of (Some found) at e = if is_before e.message found.1.message then Some (at, e) else Some found

-- the least entry with its place, if its time divided by the width is this day; else none's is
abbrev pub IsLeastOfDay : ℕ → ℕ → List Entry → Option (ℕ × Entry) → Type 0
IsLeastOfDay width day es None = IsFromDay width (day + 1) es
IsLeastOfDay width day es (Some found) = IsLeastOf is_entry es (length es) found.0 found.1

-- the day of an entry that was found, or 0
abbrev pub day_of : ℕ → Option (ℕ × Entry) → ℕ
day_of width None = 0
day_of width (Some found) = found.1.message.time / width
