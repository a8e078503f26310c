use Rattle.kit_ground.specs.Steps.{with_found}
use Rattle.kit_floor.proofs.stand.FloorGroundGround.collect.Given as goal

abbrev pub ghosts-swap : goal.ghosts-swap
ghosts-swap g a = record { deed = with_found a._about }
