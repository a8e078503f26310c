use Rattle.kit_ground.specs.Steps.{with_found}
use Rattle.kit_pool.proofs.pool.TableSeat+Bare.release.Given as goal

abbrev pub ghosts-take_one : goal.ghosts-take_one
ghosts-take_one a = record { deed = with_found a._about }
