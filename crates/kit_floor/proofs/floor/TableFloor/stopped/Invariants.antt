use Rattle.kit_ground.specs.Steps.{with_found}
use Rattle.kit_floor.proofs.floor.TableFloor.stopped.Given as goal

abbrev pub ghosts-load : goal.ghosts-load
ghosts-load g a = record { deed = with_found a._about }
