use Rattle.kit_base.proofs.Layouts.{bodies_come_back_law}
use Rattle.kit_base.proofs.laws.bodies_come_back.Goals as goal

pub returns : goal.returns
returns c = bodies_come_back_law
