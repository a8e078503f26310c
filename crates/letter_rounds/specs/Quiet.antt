-- A floor of this program, between two calls of its federates.
use Rattle.std.specs.Prelude.{◌≡◌, ℕ, length}
use mathlib.Core.Option.{some}
use lib.ListN.{get_elem?}
use Rattle.kit_ground.specs.declared.place.Place.{Place}
use Rattle.kit_ground.specs.Floors.{Floor}
use Rattle.kit_ground.specs.Steps.{buffer_of}
use Rattle.kit_courier.specs.declared.view.CourierView.{CourierView}
use Rattle.letter_rounds.specs.declared.rounds.TheConstants.{BUFFERS, FEDERATES}

-- no federate has a buffer that is still to be posted
pub record IsQuiet (f : Floor ℕ CourierView) : Type 0 where
  pub federates : length f.places ≡ FEDERATES
  pub buffers : f.buffers ≡ BUFFERS
  pub owed : (j : ℕ) (p : Place CourierView) → get_elem? f.places j ≡ some p → (k : ℕ) → (buffer_of p.own.stock k).to_post ≡ 0
