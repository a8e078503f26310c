-- The rule of a table whose seats are those of federates and of guests, and what its steps tell. The view of a seat is the list of the places
-- that it has: its own first, and then those of the seats that it took in.
use Rattle.std.specs.Prelude.{◌≡◌, ◌==◌, ℕ, MatchBool, List, [], ◌∷◌, ◌++◌, length, slice_index_or}
use mathlib.Core.Option.{some}
use lib.ListN.{get_elem?}
use Rattle.atomic_table.specs.Table.{Me}
use Rattle.kit_ground.specs.declared.address.Address.{Address}
use Rattle.kit_ground.specs.declared.place.Deed.{Deed}
use Rattle.kit_ground.specs.declared.place.Place.{Place}
use Rattle.kit_ground.specs.Guests.{GuestWorld}
use Rattle.kit_ground.specs.Layout.{memory_of}
use Rattle.kit_ground.specs.Memory.{Memory}
use Rattle.kit_ground.specs.Rules.{Keeps, Rule, WasFound, own_at_first}
use Rattle.kit_ground.specs.Steps.{Allowed, place_after, address_of, becomes}
use Rattle.kit_ground.specs.Words.{RuledWords}

module _ {V : Type 0} where
  -- each place that this seat has is the one of its number among all, and lies with this seat alone, with so many behind it
  abbrev pub DeskIsOwned : List (Place V) → (ℕ → ℕ × ℕ) → ℕ → List (Place V) → Type 0
  DeskIsOwned all owner seat [] = Unit {0}
  DeskIsOwned all owner seat (p ∷ ps) = (get_elem? all p.own.number ≡ some p) × (owner p.own.number ≡ (seat, length ps)) × DeskIsOwned all owner seat ps

  -- a guest's place is in a world with the federates' places
  pub record IsGuestBeside (rule : Rule V) (b : ℕ) (m : Memory) (federates : List (Place V)) (g : Place V) : Type 0 where
    pub buffers : g.own.buffers ≡ b
    pub world : GuestWorld rule g m federates

  -- both rules hold of n federates' places and of the words, which stand behind those in front; and the rule of guests holds of each guest's
  -- place. The guests are listed after the federates.
  pub record TableHolds (rule : Rule V) (n b : ℕ) (front words : List ℕ) (desks : List (List (Place V))) : Type 0 where
    pub federates : List (Place V)
    pub guests : List (Place V)
    pub owner : ℕ → ℕ × ℕ
    pub many : length federates ≡ n
    pub ruled : RuledWords rule b (front ++ words) federates
    pub watched : (k : ℕ) (g : Place V) → get_elem? guests k ≡ some g → IsGuestBeside rule b (memory_of (length federates) b (front ++ words)) federates g
    pub held : (seat : ℕ) (desk : List (Place V)) → get_elem? desks seat ≡ some desk → DeskIsOwned (federates ++ guests) owner seat desk

  -- a seat's own place, alone, and the others
  abbrev pub own_of : List (Place V) → List (Place V)
  own_of [] = []
  own_of (p ∷ ps) = p ∷ []

  abbrev pub others_of : List (Place V) → List (Place V)
  others_of [] = []
  others_of (p ∷ ps) = ps

  -- a seat's own place
  abbrev pub place_in : (ℕ → V) → List (Place V) → Place V
  place_in first desk = slice_index_or desk 0 (record { own = own_at_first 0 0 0; client = first 0 })

  -- of a seat's own place and the others
  abbrev pub HoldsOfOwnPlace : (Place V → List (Place V) → Type 0) → List (Place V) → Type 0
  HoldsOfOwnPlace F [] = Unit {0}
  HoldsOfOwnPlace F (p ∷ ps) = F p ps

  -- what a step tells: the seat's own place is changed by the deed, and there was a world with the word that was found
  abbrev pub FindingIsTold : {S : Type 0} → Rule V → (Deed → Place V → V) → (ℕ → Deed) → Me S (List (Place V)) → ℕ → Me S (List (Place V)) → Type 0
  FindingIsTold rule next deed me n after = HoldsOfOwnPlace (λ p ps. (after.0 ≡ place_after next (deed n) p ∷ ps) × (after.1 ≡ me.1) × WasFound rule p (address_of p.own (deed n)) n) me.0

  -- what a load tells that is the step where it finds 0, and no step where it finds another word
  abbrev pub ZeroIsTold : {S : Type 0} → Rule V → (Deed → Place V → V) → (ℕ → Deed) → Me S (List (Place V)) → ℕ → Me S (List (Place V)) → Type 0
  ZeroIsTold rule next deed me n after = MatchBool (n == 0) (FindingIsTold rule next deed me n after) (after ≡ me)

  -- and what a store tells
  abbrev pub StoreIsTold : {S : Type 0} → Rule V → (Deed → Place V → V) → (ℕ → Deed) → Me S (List (Place V)) → ℕ → Me S (List (Place V)) → Type 0
  StoreIsTold rule next deed me n after = HoldsOfOwnPlace (λ p ps. (after.0 ≡ place_after next (deed n) p ∷ ps) × (after.1 ≡ me.1) × ((found : ℕ) × WasFound rule p (address_of p.own (deed n)) found)) me.0

  -- what a step is to do at this address: it is allowed whatever it finds, makes f of the word, and keeps the client's rule in every world
  pub record Plans (rule : Rule V) (next : Deed → Place V → V) (p : Place V) (a : Address) (f : ℕ → ℕ) (deed : ℕ → Deed) : Type 0 where
    pub address : (n : ℕ) → a ≡ address_of p.own (deed n)
    pub makes : (n : ℕ) → becomes (deed n) n ≡ f n
    pub allowed : (n : ℕ) → Allowed p.own (deed n) n
    pub keeps : Keeps rule next p a deed
