use Rattle.kit_top.proofs.WorkerLaws.{completes_law}
use Rattle.kit_top.proofs.laws.completeness_by_workers.Goals as goal

pub returns : goal.returns
returns g c = completes_law g.S.Source
