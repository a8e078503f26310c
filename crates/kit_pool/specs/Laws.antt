-- Laws of a table with seats, over its words and the places that each seat has: what a step asks of the table follows from what it asks of the
-- seat, and a seat may be cut in two and take another in.
use Rattle.std.specs.Prelude.{◌≡◌, ℕ, ◌+◌, ◌<◌, ◌≤◌, List, [], ◌∷◌, ◌++◌, length, replicate}
use Rattle.atomic_table.specs.Table.{Allows, Joins, Me, Splits, State}
use Rattle.kit_ground.specs.declared.address.Address.{Address}
use Rattle.kit_ground.specs.declared.place.Deed.{Deed}
use Rattle.kit_ground.specs.declared.place.Place.{Place}
use Rattle.kit_ground.specs.Layout.{index_of, size_of}
use Rattle.kit_ground.specs.Rules.{Rule, zero_memory, places_at_first, places_from}
use Rattle.kit_pool.specs.Seating.{FindingIsTold, Plans, TableHolds, StoreIsTold, ZeroIsTold, others_of, own_of}
use Rattle.kit_pool.specs.Watching.{GuestPlans, GuestsSee, LookIsTold}

module _ {V : Type 0} (rule : Rule V) where
  abbrev pub TableStateHolds : ℕ → ℕ → List ℕ → State (Unit {0}) (List (Place V)) → Type 0
  TableStateHolds n b front s = TableHolds rule n b front s.words s.views

  -- the word i of the table is that of the address
  abbrev pub IsAt : ℕ → ℕ → List ℕ → ℕ → Address → Type 0
  IsAt n b front i a = length front + i ≡ index_of n b a

  -- a step that is planned for the seat's own place, which is a federate's, is allowed, and tells what it found
  abbrev pub StepsAreAllowed : Type 0
  StepsAreAllowed = (n b : ℕ) (front : List ℕ) (next : Deed → Place V → V) (slots id : ℕ) (me : Me (Unit {0}) (List (Place V))) (p : Place V) (ps : List (Place V)) → me.0 ≡ p ∷ ps → p.own.number < n → (i : ℕ) (a : Address) → IsAt n b front i a
      → (f : ℕ → ℕ) (deed : ℕ → Deed) → Plans rule next p a f deed → Allows (TableStateHolds n b front) slots id me i f (λ x after. FindingIsTold rule next deed me x after)

  -- where a step leaves a word that is 0, a load that finds 0 is that step, and one that finds another word is no step
  abbrev pub ZerosAreAllowed : Type 0
  ZerosAreAllowed = (n b : ℕ) (front : List ℕ) (next : Deed → Place V → V) (slots id : ℕ) (me : Me (Unit {0}) (List (Place V))) (p : Place V) (ps : List (Place V)) → me.0 ≡ p ∷ ps → p.own.number < n → (i : ℕ) (a : Address) → IsAt n b front i a
      → (f : ℕ → ℕ) (deed : ℕ → Deed) → Plans rule next p a f deed → f 0 ≡ 0 → Allows (TableStateHolds n b front) slots id me i (λ x. x) (λ x after. ZeroIsTold rule next deed me x after)

  -- a store that is planned so is allowed too
  abbrev pub StoresAreAllowed : Type 0
  StoresAreAllowed = (n b : ℕ) (front : List ℕ) (next : Deed → Place V → V) (slots id : ℕ) (me : Me (Unit {0}) (List (Place V))) (p : Place V) (ps : List (Place V)) → me.0 ≡ p ∷ ps → p.own.number < n → (i : ℕ) (a : Address) → IsAt n b front i a
      → (v : ℕ) (deed : ℕ → Deed) → Plans rule next p a (λ _. v) (λ _. deed v) → Allows (TableStateHolds n b front) slots id me i (λ _. v) (λ _. StoreIsTold rule next deed me v)

  -- a look that is planned for the seat's own place, which is a guest's, is allowed, leaves the words, and tells what it found
  abbrev pub LooksAreAllowed : Type 0
  LooksAreAllowed = (n b : ℕ) (front : List ℕ) (next : Deed → Place V → V) (slots id : ℕ) (me : Me (Unit {0}) (List (Place V))) (p : Place V) (ps : List (Place V)) → me.0 ≡ p ∷ ps → n ≤ p.own.number → (i : ℕ) (a : Address) → IsAt n b front i a
      → (deed : ℕ → Deed) → GuestPlans rule next p a deed → Allows (TableStateHolds n b front) slots id me i (λ x. x) (λ x after. LookIsTold rule next deed me x after)

  -- a seat gives its first place to a new seat
  abbrev pub SeatsAreCut : Type 0
  SeatsAreCut = (n b : ℕ) (front : List ℕ) (id : ℕ) (desk : List (Place V)) → Splits (TableStateHolds n b front) id desk (others_of desk) (own_of desk)

  -- a seat has the places of the one that it takes in behind its own
  abbrev pub SeatsAreTakenIn : Type 0
  SeatsAreTakenIn = (n b : ℕ) (front : List ℕ) (id : ℕ) (d : List (Place V)) (other : ℕ) (e : List (Place V)) → Joins (TableStateHolds n b front) id d other e (d ++ e) []

  -- at the opening one seat has the places of all federates and of g guests, and all words are 0
  abbrev pub OpensSo : Type 0
  OpensSo = (first : ℕ → V) (n b g : ℕ) (front words : List ℕ) → 1 ≤ n → n ≤ 16 → b ≤ 1024 → rule.holds zero_memory (places_at_first first n b) → GuestsSee rule first n b g → front ++ words ≡ replicate (size_of n b) 0
      → TableHolds rule n b front words (places_from first n b 0 (n + g) ∷ [])
