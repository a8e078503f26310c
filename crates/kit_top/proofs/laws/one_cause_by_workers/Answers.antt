use Rattle.kit_top.proofs.WorkerLaws.{one_cause_law}
use Rattle.kit_top.proofs.laws.one_cause_by_workers.Goals as goal

pub returns : goal.returns
returns g c = one_cause_law g.S.Source
