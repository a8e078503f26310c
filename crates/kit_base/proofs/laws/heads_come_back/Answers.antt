use Rattle.kit_base.proofs.Layouts.{heads_come_back_law}
use Rattle.kit_base.proofs.laws.heads_come_back.Goals as goal

pub returns : goal.returns
returns c = heads_come_back_law
