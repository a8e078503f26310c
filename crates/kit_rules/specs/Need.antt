-- How large a federate's pool must be.
use Rattle.std.specs.Prelude.{ℕ, zero, suc, ◌*◌, ◌==◌, nat_lt, max, Bool, ◌&&◌, List, [], ◌∷◌, length, map, fold, count_by}
use Rattle.std.specs.List.{range_with_len}
use Rattle.kit_base.specs.declared.message.Message.{Message}
use Rattle.kit_rules.specs.Parts.{Parts}
use Rattle.kit_rules.specs.Delivery.{is_transported}
use Rattle.kit_rules.specs.Simulation.{World, seat_at, world_at_start, next_world}

-- a transported send of federate i that is timed after now
abbrev pub is_outstanding : Parts → ℕ → ℕ → Message → Bool
is_outstanding p i now m = m.sender == i && is_transported p m && nat_lt now m.time

-- how many there are in a world
abbrev pub outstanding : Parts → ℕ → World → ℕ
outstanding p i w = count_by (is_outstanding p i (seat_at w i).now) w.messages

-- a world, and those after each of so many grants
abbrev pub worlds_from : Parts → ℕ → World → List World
worlds_from p zero w = w ∷ []
worlds_from p (suc n) w = w ∷ worlds_from p n (next_world p w)

-- the most that a federate has outstanding in one of these worlds
abbrev pub most_outstanding : Parts → ℕ → List World → ℕ
most_outstanding p i ws = fold max 0 (map (outstanding p i) ws)

-- the most that a federate has outstanding, at the start and after a grant
abbrev pub need_of : Parts → ℕ → ℕ
need_of p i = most_outstanding p i (worlds_from p (length p.federates * p.end) (world_at_start p))

-- the need of each federate
abbrev pub needs_of : Parts → List ℕ
needs_of p = map (need_of p) (range_with_len 0 (length p.federates))
