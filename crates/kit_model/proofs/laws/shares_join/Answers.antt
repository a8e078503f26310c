use Rattle.kit_model.proofs.Packing.{join_commutes, join_associates}
use Rattle.kit_model.proofs.laws.shares_join.Goals as goal

pub returns-clause-commutes : goal.returns-clause-commutes
returns-clause-commutes c = join_commutes

pub returns-clause-associates : goal.returns-clause-associates
returns-clause-associates c = join_associates
