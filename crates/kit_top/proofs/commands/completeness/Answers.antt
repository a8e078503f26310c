use Rattle.kit_top.proofs.OneCause.{completes_law}
use Rattle.kit_top.proofs.commands.completeness.Goals as goal

pub returns : goal.returns
returns g c = completes_law g.S.Source
