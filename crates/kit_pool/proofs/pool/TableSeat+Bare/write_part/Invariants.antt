use Rattle.kit_ground.specs.Steps.{with_found}
use Rattle.kit_pool.proofs.pool.TableSeat+Bare.write_part.Given as goal

abbrev pub ghosts-store : goal.ghosts-store
ghosts-store a = record { deed = with_found a._about }
