-- What is dealt is in one place only: in the queue, or in one hand.
use Rattle.std.specs.Prelude.{◌≡◌, ℕ, ◌+◌, ◌<◌, ◌≤◌, List, [], ◌∷◌, ◌++◌, Option, length, All, Bool, true, false, IsTrue}
use Rattle.std.specs.List.{sum_by}
use mathlib.Core.Option.{some}
use lib.ListN.{get_elem?}
use Rattle.std.specs.Prelude.{Vec, vec_capacity}
use Rattle.std.specs.declared.alloc.Global.{Global}
use Rattle.crossbeam_queue.specs.Passes.{Pass, view, IsPassOf, ruled_capacity}
use Rattle.crossbeam_queue.specs.declared.array_queue.Doing.{Doing}
use Rattle.crossbeam_queue.specs.declared.array_queue.Slotted.{Slotted}
use Rattle.kit_deal.specs.declared.dealing.Activity.{Activity}
use Rattle.kit_deal.specs.declared.dealing.Activity.TheVariants.{Worked, Idle, Ended}
use Rattle.kit_deal.specs.declared.dealing.Hand.{Hand}

abbrev pub hand : ℕ → List ℕ → Hand
hand parts held = record { parts = parts; held = held }

-- how many parts there are of the right to know the whole
abbrev pub all_parts : ℕ
all_parts = 1024

-- whether a turn with this answer is the item's last
abbrev pub is_last_turn : Activity → Bool
is_last_turn Worked = false
is_last_turn Idle = false
is_last_turn Ended = true

-- an item is open where it fits, and has not been worked to its end
abbrev pub IsOpen : {T : Type 0} → (T → Type 0) → (T → Bool) → T → Type 0
IsOpen Fits has_ended x = Fits x × (has_ended x ≡ false)

-- each of the items has been worked to its end
abbrev pub AllHaveEnded : {T : Type 0} → (T → Bool) → List T → Type 0
AllHaveEnded has_ended items = All (λ x. IsTrue (has_ended x)) items

-- a hand with no part holds nothing
abbrev pub IdleIsEmpty : List Hand → Type 0
IdleIsEmpty hands = (k : ℕ) (v : Hand) → get_elem? hands k ≡ some v → v.parts ≡ 0 → v.held ≡ []

-- the hand holds the numbers of these items, however numbers are weighed
abbrev pub Holds : {T : Type 0} → (T → ℕ) → Hand → List T → Type 0
Holds number v items = (h : ℕ → ℕ) → sum_by h v.held ≡ sum_by (λ x. h (number x)) items

-- the hand holds this number, and others besides
abbrev pub HoldsNumber : Hand → ℕ → Type 0
HoldsNumber v n = (rest : List ℕ) × ((h : ℕ → ℕ) → sum_by h v.held ≡ h n + sum_by h rest)

-- these items have these numbers, each as often, however numbers are weighed
abbrev pub AreAll : {T : Type 0} → (T → ℕ) → List ℕ → List T → Type 0
AreAll number all items = (h : ℕ → ℕ) → sum_by (λ x. h (number x)) items ≡ sum_by h all

-- each number that is dealt is as often in the queue and the hands together as it is dealt, and all that the queue holds is open
abbrev pub IsDealt : {T : Type 0} → (T → ℕ) → (T → Type 0) → List ℕ → List T → List Hand → Type 0
IsDealt number Open all items hands =
    (sum_by (λ v. v.parts) hands ≡ all_parts)
    × ((h : ℕ → ℕ) → sum_by (λ x. h (number x)) items + sum_by (λ v. sum_by h v.held) hands ≡ sum_by h all)
    × IdleIsEmpty hands
    × All Open items

-- the first hand has given a number away, and is then the second
abbrev pub GivesNumber : Hand → ℕ → Hand → Type 0
GivesNumber v n w = (w.parts ≡ v.parts) × ((h : ℕ → ℕ) → sum_by h v.held ≡ h n + sum_by h w.held)

-- the queue holds these items and the hand no more than what is left of all
abbrev pub IsWithin : {T : Type 0} → List ℕ → Hand → List T → Type 0
IsWithin all v items = length items + length v.held ≤ length all

-- a hand with all parts holds all that the queue does not
abbrev pub HasTheRest : {T : Type 0} → (T → ℕ) → List ℕ → Hand → List T → Type 0
HasTheRest number all v items = v.parts ≡ all_parts → (h : ℕ → ℕ) → sum_by (λ x. h (number x)) items + sum_by h v.held ≡ sum_by h all

-- a hand has taken an open item, and holds no more than all
abbrev pub TakesItem : {T : Type 0} → (T → ℕ) → (T → Type 0) → List ℕ → Hand → T → Hand → Type 0
TakesItem number Open all v x w = (w ≡ hand v.parts (v.held ++ number x ∷ [])) × Open x × (length w.held ≤ length all)

-- the queue is for all that is dealt, nothing is given back, and this token has all numbers in hand, with all parts
abbrev pub IsLaid : {T Q A : Type 0} → List ℕ → Slotted (Option T) (Doing T Hand) Q A → Pass T Hand → Vec T Global → Type 0
IsLaid all queue token kept =
    IsPassOf queue token × (ruled_capacity queue ≡ length all) × (view token ≡ hand all_parts all) × (kept.items ≡ []) × (length all ≤ vec_capacity kept)

-- a worker's token is one of the queue, which has room for all, and it has a part
pub record IsTokenOf {T Q A : Type 0} (all : List ℕ) (queue : Slotted (Option T) (Doing T Hand) Q A) (token : Pass T Hand) : Type 0 where
  pub pass : IsPassOf queue token
  pub capacity : ruled_capacity queue ≡ length all
  pub some_part : 0 < (view token).parts

-- what a worker kept is what its hand holds: items that fit, and have been worked to their ends
pub record IsKept {T : Type 0} (number : T → ℕ) (Fits : T → Type 0) (has_ended : T → Bool) (v : Hand) (items : List T) : Type 0 where
  pub held : Holds number v items
  pub ended : AllHaveEnded has_ended items
  pub fits : All Fits items

-- a worker with one part of a queue and nothing in hand
pub record IsFreshWorker {T Q A : Type 0} (all : List ℕ) (queue : Slotted (Option T) (Doing T Hand) Q A) (token : Pass T Hand) : Type 0 where
  pub at_queue : IsTokenOf all queue token
  pub has_parts : (view token).parts ≡ 1
  pub empty : (view token).held ≡ []

-- a worker that may be followed by others, so many in all: it has a part for each, and room for all that comes back
pub record IsLeadOf {T Q A : Type 0} (number : T → ℕ) (Fits : T → Type 0) (has_ended : T → Bool) (all : List ℕ) (count : ℕ) (queue : Slotted (Option T) (Doing T Hand) Q A) (token : Pass T Hand) (kept : Vec T Global) : Type 0 where
  pub at_queue : IsTokenOf all queue token
  pub has_parts : count ≤ (view token).parts
  pub room : length all ≤ vec_capacity kept
  pub keeps : IsKept number Fits has_ended (view token) kept.items

-- a worker that has returned, with its parts and with what it kept
pub record HasReturned {T Q A : Type 0} (number : T → ℕ) (Fits : T → Type 0) (has_ended : T → Bool) (all : List ℕ) (parts : ℕ) (queue : Slotted (Option T) (Doing T Hand) Q A) (token : Pass T Hand) (kept : Vec T Global) : Type 0 where
  pub at_queue : IsTokenOf all queue token
  pub has_parts : (view token).parts ≡ parts
  pub keeps : IsKept number Fits has_ended (view token) kept.items

-- as many items as numbers, and each of the numbers is that of an item
abbrev pub EachIsThere : {T : Type 0} → (T → ℕ) → List ℕ → List T → Type 0
EachIsThere {T} number all items = (length items ≡ length all) × ((j k : ℕ) → get_elem? all j ≡ some k → (i : ℕ) × (x : T) × (get_elem? items i ≡ some x) × (number x ≡ k))
