use Rattle.std.proofs.Common.{ℕ, ap, ◌∙◌}
use Rattle.kit_ground.specs.Floors.{new_floor}
use Rattle.kit_courier.specs.Deliveries.{courier_first}
use Rattle.kit_courier.proofs.Openings.{opens_told}
use Rattle.kit_courier.proofs.pair.exchange.Goals as goal

pub new-requires-2-clause-rule : goal.new-requires-2-clause-rule
new-requires-2-clause-rule c = opens_told c.new.result.value 2 1 c.new.ensures

pub hand_over-requires : goal.hand_over-requires
hand_over-requires c = c.in_ok-floor.ensures ∙ ap (λ (n : ℕ). new_floor courier_first n 2 1) c.new.ensures
