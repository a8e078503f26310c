-- The rule of this client.
use Rattle.std.specs.Prelude.{List, length}
use Rattle.kit_ground.specs.declared.place.Place.{Place}
use Rattle.kit_ground.specs.Memory.{Memory}
use Rattle.kit_ground.specs.Rules.{Rule}
use Rattle.kit_courier.specs.declared.view.CourierView.{CourierView}
use Rattle.kit_courier.specs.Clocks.{Clocks, Knows}
use Rattle.kit_courier.specs.Letters.{Letters}

pub record CourierRule (m : Memory) (places : List (Place CourierView)) : Type 0 where
  pub clocks : Clocks m places
  pub letters : Letters m places

-- a guest sends and reads no letters
abbrev pub courier_rule : Rule CourierView
courier_rule = record { holds = CourierRule; sees = λ m places g. Knows m (length places) g.client }
