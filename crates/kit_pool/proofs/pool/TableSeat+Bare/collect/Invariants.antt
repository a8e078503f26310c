use Rattle.kit_ground.specs.Steps.{with_found}
use Rattle.kit_pool.proofs.pool.TableSeat+Bare.collect.Given as goal

abbrev pub ghosts-swap : goal.ghosts-swap
ghosts-swap a = record { deed = with_found a._about }
