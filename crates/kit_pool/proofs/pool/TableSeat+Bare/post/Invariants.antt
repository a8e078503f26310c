use Rattle.kit_ground.specs.Steps.{with_found}
use Rattle.kit_pool.proofs.pool.TableSeat+Bare.post.Given as goal

abbrev pub ghosts-join_bit : goal.ghosts-join_bit
ghosts-join_bit a = record { deed = with_found a._about }
