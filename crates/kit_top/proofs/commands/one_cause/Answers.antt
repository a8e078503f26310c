use Rattle.kit_top.proofs.OneCause.{one_cause_law}
use Rattle.kit_top.proofs.commands.one_cause.Goals as goal

pub returns : goal.returns
returns g c = one_cause_law g.S.Source
