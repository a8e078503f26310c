use Rattle.kit_courier.proofs.Looking.{guest_learns}
use Rattle.kit_courier.proofs.laws.guests_learn.Goals as goal

pub returns : goal.returns
returns c = guest_learns
