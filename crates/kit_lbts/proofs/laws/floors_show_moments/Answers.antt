use Rattle.kit_lbts.proofs.Moments.{moments_are_sound, known_bounds_are_bounds}
use Rattle.kit_lbts.proofs.laws.floors_show_moments.Goals as goal

pub returns-clause-moments : goal.returns-clause-moments
returns-clause-moments c = moments_are_sound

pub returns-clause-bounds : goal.returns-clause-bounds
returns-clause-bounds c = known_bounds_are_bounds
