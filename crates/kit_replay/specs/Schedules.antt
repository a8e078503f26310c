-- Turns that were given one after another, and how they follow a schedule.
use Rattle.std.specs.Prelude.{◌≡◌, ◌≢◌, ℕ, ◌<◌, ◌==◌, nat_lt, Bool, List, [], ◌∷◌, ◌++◌, All, map, filter, replicate, slice_index_or, Option, None, Some}
use Rattle.std.specs.List.{flat_map}

-- one turn that was given: to this federate, which made so many steps in it
pub record GivenTurn : Type 0 where
  pub federate : ℕ
  pub steps : ℕ

abbrev pub whose : GivenTurn → ℕ
whose g = g.federate

-- the turns of a federate, each as the number of its steps
abbrev pub is_turn_of : ℕ → GivenTurn → Bool
is_turn_of i g = g.federate == i

abbrev pub turns_of : ℕ → List GivenTurn → List ℕ
turns_of i given = map (λ (g : GivenTurn). g.steps) (filter (is_turn_of i) given)

-- who made the steps, one after another
abbrev pub steps_in : GivenTurn → List ℕ
steps_in g = replicate g.steps g.federate

abbrev pub steps_of : List GivenTurn → List ℕ
steps_of given = flat_map steps_in given

-- the entries that name one of n federates
abbrev pub is_below : ℕ → ℕ → Bool
is_below n i = nat_lt i n

abbrev pub entries_below : ℕ → List ℕ → List ℕ
entries_below n schedule = filter (is_below n) schedule

-- each entry that names a federate gave it a turn, in this order; each federate has these turns and no other, and their
-- steps are all steps that were made
pub record FollowsSchedule (n : ℕ) (schedule : List ℕ) (turns : List (List ℕ)) (steps : List ℕ) : Type 0 where
  pub given : List GivenTurn
  pub order : map whose given ≡ entries_below n schedule
  pub listed : (i : ℕ) → i < n → slice_index_or turns i [] ≡ turns_of i given
  pub made : steps ≡ steps_of given

-- the entries that were taken: where a node ended badly those up to one of its federate, and otherwise all
pub record StopsAt (schedule taken : List ℕ) (f : ℕ) : Type 0 where
  pub before : List ℕ
  pub last : taken ≡ before ++ f ∷ []
  pub left : List ℕ
  pub split : schedule ≡ taken ++ left

abbrev pub AreTaken : List ℕ → List ℕ → Option ℕ → Type 0
AreTaken schedule taken None = taken ≡ schedule
AreTaken schedule taken (Some f) = StopsAt schedule taken f

-- each turn has a step at least, but for those after the federate's end, which have none
pub record StepsUntil (HasEnded : Type 0) (turns : List ℕ) : Type 0 where
  pub before : List ℕ
  pub after : List ℕ
  pub split : turns ≡ before ++ after
  pub some : All (λ (n : ℕ). 0 < n) before
  pub none : All (λ (n : ℕ). n ≡ 0) after
  pub end : after ≢ [] → HasEnded
