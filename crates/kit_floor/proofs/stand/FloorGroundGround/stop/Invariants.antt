use Rattle.kit_ground.specs.Steps.{with_found}
use Rattle.kit_floor.proofs.stand.FloorGroundGround.stop.Given as goal

abbrev pub ghosts-store : goal.ghosts-store
ghosts-store g a = record { deed = with_found a._about }
