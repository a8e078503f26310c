use Rattle.kit_ground.specs.Steps.{with_found}
use Rattle.kit_pool.proofs.pool.TableSeat+Bare.charge.Given as goal

abbrev pub ghosts-add : goal.ghosts-add
ghosts-add a = record { deed = with_found a._about }
