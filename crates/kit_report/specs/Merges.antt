-- What is left of parts, as lines, and which of them is next in their merge.
use Rattle.std.specs.Prelude.{◌≡◌, ℕ, ◌-◌, ◌<◌, ◌≤◌, ◌⊎◌, List, [], ◌∷◌, length, map, drop, slice_index_or, nat_le, if◌then◌else◌, Option, None, Some}
use Rattle.kit_base.specs.declared.history.Line.{Line}
use Rattle.kit_base.specs.declared.history.Line.TheVariants.{Deliver, Grant}
use Rattle.kit_base.specs.declared.history.Part.{Part}
use Rattle.kit_report.specs.declared.merging.Place.{Place}

-- the time with which a line was granted
abbrev pub grant_time : Line → ℕ
grant_time (Deliver granted federate m) = granted
grant_time (Grant t federate) = t

-- the grant time of the first of the lines
abbrev pub first_grant_time : List Line → Option ℕ
first_grant_time [] = None
first_grant_time (l ∷ ls) = Some (grant_time l)

-- what is left of a part's lines, where there are so many
abbrev pub last_lines : ℕ → List Line → List Line
last_lines left lines = drop (length lines - left) lines

-- the place in a part's lines where so many of them are left
abbrev pub place_in : ℕ → List Line → Place
place_in left lines = record { left = left; time = first_grant_time (last_lines left lines) }

-- the place before all lines of a part
abbrev pub first_place : Part → Place
first_place part = place_in (length part.lines) part.lines

-- how much is left at the place k, and the time of the first grant that is
abbrev pub left_in : Place → ℕ
left_in place = place.left

abbrev pub left_at : List Place → ℕ → ℕ
left_at places k = slice_index_or (map left_in places) k 0

abbrev pub time_in : Place → Option ℕ
time_in place = place.time

abbrev pub time_at : List Place → ℕ → Option ℕ
time_at places k = slice_index_or (map time_in places) k None

-- the lines up to the first grant
abbrev pub through_grant : List Line → List Line
through_grant [] = []
through_grant (Deliver granted federate m ∷ ls) = Deliver granted federate m ∷ through_grant ls
through_grant (Grant t federate ∷ ls) = Grant t federate ∷ []

-- and those behind it
abbrev pub behind_grant : List Line → List Line
behind_grant [] = []
behind_grant (Deliver granted federate m ∷ ls) = behind_grant ls
behind_grant (Grant t federate ∷ ls) = ls

-- the part k has the least time of these, and is the first of those that have it
pub record IsSoonest (times : ℕ → Option ℕ) (count k : ℕ) : Type 0 where
  pub inside : k < count
  pub time : ℕ
  pub time_is : times k ≡ Some time
  pub least : (j u : ℕ) → j < count → times j ≡ Some u → (time < u) ⊎ ((time ≡ u) × (k ≤ j))

-- nothing is left of any part
abbrev pub HaveNoTime : (ℕ → Option ℕ) → ℕ → Type 0
HaveNoTime times count = (j : ℕ) → j < count → times j ≡ None

-- the sooner of a time with its part, if there is one, and of another of a later part
abbrev pub sooner_of : Option (ℕ × ℕ) → ℕ → ℕ → Option (ℕ × ℕ)
sooner_of None time at = Some (time, at)
sooner_of (Some best) time at = if nat_le best.0 time then Some best else Some (time, at)
