-- Guests: seats that take looks alone. Their numbers come after those of the federates.
use Rattle.std.specs.Prelude.{◌≡◌, ℕ, ◌≤◌, List, length}
use Rattle.kit_ground.specs.declared.address.Address.{Address}
use Rattle.kit_ground.specs.declared.place.Deed.{Deed}
use Rattle.kit_ground.specs.declared.place.Place.{Place}
use Rattle.kit_ground.specs.Memory.{Memory}
use Rattle.kit_ground.specs.Rules.{Rule, FloorHolds}
use Rattle.kit_ground.specs.Steps.{place_after}

module _ {V : Type 0} where
  -- a world in which the rules hold, and that of guests holds of the place g
  pub record GuestWorld (rule : Rule V) (g : Place V) (m : Memory) (places : List (Place V)) : Type 0 where
    pub floor : FloorHolds g.own.buffers m places
    pub client : rule.holds m places
    pub federates : g.own.federates ≡ length places
    pub number : length places ≤ g.own.number
    pub sees : rule.sees m places g

  -- in every such world the rule of guests holds of it after a look at this address
  abbrev pub GuestKeeps : Rule V → (Deed → Place V → V) → Place V → Address → (ℕ → Deed) → Type 0
  GuestKeeps rule next g a deed = (m : Memory) (places : List (Place V)) → GuestWorld rule g m places → rule.sees m places (place_after next (deed (m a)) g)

  -- there was a world of this guest, and this word was in it
  abbrev pub WasSeen : Rule V → Place V → Address → ℕ → Type 0
  WasSeen rule g a word = (m : Memory) × (places : List (Place V)) × GuestWorld rule g m places × (m a ≡ word)
