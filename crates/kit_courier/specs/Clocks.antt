-- The rule of the clocks: nobody knows more of a clock than its register shows.
use Rattle.std.specs.Prelude.{◌≡◌, ℕ, ◌<◌, ◌≤◌, List, length, slice_index}
use mathlib.Core.Option.{some}
use lib.ListN.{get_elem?}
use Rattle.kit_ground.specs.declared.address.Address.TheVariants.{Register}
use Rattle.kit_ground.specs.declared.place.Place.{Place}
use Rattle.kit_ground.specs.Memory.{Memory}
use Rattle.kit_courier.specs.declared.view.CourierView.{CourierView}
use Rattle.kit_ground.specs.Layout.{clock_of}

-- what the clock of the federate k shows
abbrev pub clock : Memory → ℕ → ℕ
clock m k = m (Register (clock_of k))

-- what is known of the clocks of n federates
pub record Knows (m : Memory) (n : ℕ) (v : CourierView) : Type 0 where
  pub wide : length v.known ≡ n
  pub behind : (k : ℕ) → k < n → slice_index v.known k ≤ clock m k

pub record Clocks (m : Memory) (places : List (Place CourierView)) : Type 0 where
  pub each : (j : ℕ) (p : Place CourierView) → get_elem? places j ≡ some p → Knows m (length places) p.client
