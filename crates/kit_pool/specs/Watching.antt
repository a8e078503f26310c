-- What guests do: they look at registers and at the stop word, and store nothing.
use Rattle.std.specs.Prelude.{◌≡◌, ℕ, ◌+◌, ◌<◌, ◌≤◌, List, ◌∷◌}
use mathlib.Core.Option.{some}
use lib.ListN.{get_elem?}
use Rattle.atomic_table.specs.Table.{Me}
use Rattle.kit_ground.specs.declared.address.Address.{Address}
use Rattle.kit_ground.specs.declared.place.Deed.{Deed}
use Rattle.kit_ground.specs.declared.place.Deed.TheVariants.{Looked, SawStop}
use Rattle.kit_ground.specs.declared.place.Place.{Place}
use Rattle.kit_ground.specs.Guests.{GuestKeeps, WasSeen}
use Rattle.kit_ground.specs.Rules.{Rule, own_at_first, places_at_first, zero_memory}
use Rattle.kit_ground.specs.Steps.{Allowed, place_after, address_of}
use Rattle.kit_pool.specs.Seating.{HoldsOfOwnPlace}

-- a look at a register or at the stop word
abbrev pub IsLook : Deed → Type 0
IsLook (Looked r word) = Unit {0}
IsLook (SawStop set) = Unit {0}
IsLook _ = ⊥

-- the limits of a floor, and of the number of a guest
pub record IsGuestWithin (number n b : ℕ) : Type 0 where
  pub behind : n ≤ number
  pub few : n ≤ 16
  pub small : b ≤ 1024

module _ {V : Type 0} where
  -- the place of the seat k at first
  abbrev pub place_at_first : (ℕ → V) → ℕ → ℕ → ℕ → Place V
  place_at_first first n b k = record { own = own_at_first n b k; client = first k }

  -- at the opening the rule of guests holds of each of g guests
  abbrev pub GuestsSee : Rule V → (ℕ → V) → ℕ → ℕ → ℕ → Type 0
  GuestsSee rule first n b g = (k : ℕ) → k < g → rule.sees zero_memory (places_at_first first n b) (place_at_first first n b (n + k))

  -- all places are those of guests, beside n federates
  abbrev pub AreGuests : ℕ → List (Place V) → Type 0
  AreGuests n desk = (k : ℕ) (p : Place V) → get_elem? desk k ≡ some p → n ≤ p.own.number

  -- what a guest's look is to do at this address: it is allowed whatever it finds, and keeps the rule of guests in every world
  pub record GuestPlans (rule : Rule V) (next : Deed → Place V → V) (g : Place V) (a : Address) (deed : ℕ → Deed) : Type 0 where
    pub address : (n : ℕ) → a ≡ address_of g.own (deed n)
    pub looks : (n : ℕ) → IsLook (deed n)
    pub allowed : (n : ℕ) → Allowed g.own (deed n) n
    pub keeps : GuestKeeps rule next g a deed

  -- what a guest's look tells: its own place is changed by the deed, and there was a world of it with the word that was found
  abbrev pub LookIsTold : {S : Type 0} → Rule V → (Deed → Place V → V) → (ℕ → Deed) → Me S (List (Place V)) → ℕ → Me S (List (Place V)) → Type 0
  LookIsTold rule next deed me n after = HoldsOfOwnPlace (λ p ps. (after.0 ≡ place_after next (deed n) p ∷ ps) × (after.1 ≡ me.1) × WasSeen rule p (address_of p.own (deed n)) n) me.0
