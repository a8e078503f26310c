-- What a guest does under this client's rule.
use Rattle.std.specs.Prelude.{ℕ}
use Rattle.kit_ground.specs.declared.address.Address.TheVariants.{Register}
use Rattle.kit_ground.specs.declared.place.Deed.TheVariants.{Looked}
use Rattle.kit_ground.specs.declared.place.Place.{Place}
use Rattle.kit_ground.specs.Guests.{GuestKeeps}
use Rattle.kit_courier.specs.declared.view.CourierView.{CourierView}
use Rattle.kit_courier.specs.Couriers.{courier_rule}
use Rattle.kit_courier.specs.Deliveries.{view_after}
use Rattle.kit_ground.specs.Layout.{clock_of}

-- a guest may look at each clock
abbrev pub GuestsLearn : Type 0
GuestsLearn = (g : Place CourierView) (k : ℕ) → GuestKeeps courier_rule view_after g (Register (clock_of k)) (λ word. Looked (clock_of k) word)
