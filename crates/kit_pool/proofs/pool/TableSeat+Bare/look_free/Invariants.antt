use Rattle.kit_ground.specs.Steps.{with_found}
use Rattle.kit_pool.proofs.pool.TableSeat+Bare.look_free.Given as goal

abbrev pub ghosts-load : goal.ghosts-load
ghosts-load a = record { deed = with_found a._about }
