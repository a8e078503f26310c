use Rattle.std.proofs.Common.{ℕ, ap, ◌∙◌, arith}
use Rattle.std.specs.Prelude.{slice_index}
use Rattle.kit_ground.specs.declared.place.Place.{Place}
use Rattle.kit_ground.specs.Floors.{new_floor}
use Rattle.kit_courier.specs.declared.view.CourierView.{CourierView}
use Rattle.kit_courier.specs.Deliveries.{courier_first}
use Rattle.kit_courier.proofs.Openings.{opens_told}
use Rattle.kit_courier.proofs.Pairs.{second_new}
use Rattle.kit_courier.proofs.tests.one_clock_is_found_by_the_other.Goals as goal

pub new-requires-2-clause-rule : goal.new-requires-2-clause-rule
new-requires-2-clause-rule g c = opens_told c.new.result.value 2 1 c.new.ensures

pub advance-other-requires : goal.advance-other-requires
advance-other-requires g c =
    let new = c.in_ok-floor.ensures ∙ ap (λ (n : ℕ). new_floor courier_first n 2 1) c.new.ensures in
    let shown = ap (λ (p : Place CourierView). slice_index p.own.shown 12) (second_new _ _ _ new c.advance-none.ensures.came c.seat.ensures.seated) in
    omega arith
