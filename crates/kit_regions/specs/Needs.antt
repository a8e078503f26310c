-- How large a pool must be for the simulation of a plan.
use Rattle.std.specs.Prelude.{ℕ, zero, suc, ◌*◌, ◌==◌, nat_lt, max, Bool, ◌&&◌, List, [], ◌∷◌, length, map, fold, count_by}
use Rattle.kit_base.specs.declared.message.Message.{Message}
use Rattle.kit_rules.specs.Simulation.{World, seat_at}
use Rattle.kit_regions.specs.Plan.{Plan}
use Rattle.kit_regions.specs.Regional.{is_regionally_transported, regional_world_at_start, regional_next_world}

-- a transported send of federate i that is timed after now
abbrev pub is_regionally_outstanding : Plan → ℕ → ℕ → Message → Bool
is_regionally_outstanding plan i now m = m.sender == i && is_regionally_transported plan m && nat_lt now m.time

-- how many there are in a world
abbrev pub regional_outstanding : Plan → ℕ → World → ℕ
regional_outstanding plan i w = count_by (is_regionally_outstanding plan i (seat_at w i).now) w.messages

-- a world, and those after each of so many grants
abbrev pub regional_worlds_from : Plan → ℕ → World → List World
regional_worlds_from plan zero w = w ∷ []
regional_worlds_from plan (suc n) w = w ∷ regional_worlds_from plan n (regional_next_world plan w)

-- the most that a federate has outstanding, at the start and after a grant
abbrev pub regional_need : Plan → ℕ → ℕ
regional_need plan i = fold max 0 (map (regional_outstanding plan i) (regional_worlds_from plan (length plan.federates * plan.end) (regional_world_at_start plan)))
