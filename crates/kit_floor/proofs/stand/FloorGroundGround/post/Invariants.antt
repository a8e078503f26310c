use Rattle.kit_ground.specs.Steps.{with_found}
use Rattle.kit_floor.proofs.stand.FloorGroundGround.post.Given as goal

abbrev pub ghosts-join_bit : goal.ghosts-join_bit
ghosts-join_bit g a = record { deed = with_found a._about }
