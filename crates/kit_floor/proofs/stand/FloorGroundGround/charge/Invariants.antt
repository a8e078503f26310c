use Rattle.kit_ground.specs.Steps.{with_found}
use Rattle.kit_floor.proofs.stand.FloorGroundGround.charge.Given as goal

abbrev pub ghosts-add : goal.ghosts-add
ghosts-add g a = record { deed = with_found a._about }
