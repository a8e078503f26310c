-- How many grants there are.
use Rattle.std.proofs.Common.{ℕ, zero, suc, ◌+◌, ◌*◌, ◌≤◌, [], ◌∷◌, length, Option, Some, None, arith, length-append}
use Rattle.kit_rules.specs.Parts.{Parts}
use Rattle.kit_rules.specs.Delivery.{due_messages}
use Rattle.kit_rules.specs.Simulation.{World, seat_at, block, next_grant, world_at_start, world_after_pair, next_world, after_grants}
use Rattle.kit_laws.specs.Laws.{FewGrants}

-- a turn adds one block at most
one_more : (p : Parts) (w : World) (o : Option (ℕ × ℕ)) → length (world_after_pair p w o).blocks ≤ length w.blocks + 1
one_more p w None = omega arith
one_more p w (Some g) = omega (arith, length-append w.blocks (block g.1 g.0 (due_messages p g.1 g.0 (seat_at w g.1).got w.messages) ∷ []))

after_few : (p : Parts) (n : ℕ) (w : World) → length (after_grants p n w).blocks ≤ length w.blocks + n
after_few p zero w = omega arith
after_few p (suc n) w = omega (arith, one_more p w (next_grant p w), after_few p n (next_world p w))

pub few_grants_law : FewGrants
few_grants_law p = omega (arith, after_few p (length p.federates * p.end) (world_at_start p))
