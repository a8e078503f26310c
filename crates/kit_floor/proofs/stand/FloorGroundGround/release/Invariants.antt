use Rattle.kit_ground.specs.Steps.{with_found}
use Rattle.kit_floor.proofs.stand.FloorGroundGround.release.Given as goal

abbrev pub ghosts-take_one : goal.ghosts-take_one
ghosts-take_one g a = record { deed = with_found a._about }
