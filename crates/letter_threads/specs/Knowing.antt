-- What a guest knows of the clocks.
use Rattle.std.specs.Prelude.{ℕ, List}
use Rattle.kit_ground.specs.declared.ground.Protocol.{Ghosts}
use Rattle.kit_pool.specs.declared.guest.GuestSeat.{GuestSeat}
use Rattle.kit_courier.specs.declared.view.CourierView.{CourierView}
use Rattle.kit_courier.specs.Deliveries.{courier_first}
use Rattle.kit_floor.specs.declared.floor.TableFloor.{TableFloor}
use Rattle.kit_floor.specs.GuestViews.{guest_place_of}

-- the clock of each federate, as the guest last found it
abbrev pub known_by : {P : Type 0} {g : Ghosts P CourierView ℕ} → TableFloor P CourierView ℕ → GuestSeat P CourierView ℕ g → List ℕ
known_by floor s = (guest_place_of courier_first floor s).client.known
