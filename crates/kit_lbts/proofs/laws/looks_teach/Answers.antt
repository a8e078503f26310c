use Rattle.kit_lbts.proofs.Knowledge.{known_lasts}
use Rattle.kit_lbts.proofs.Looking.{looks_teach}
use Rattle.kit_lbts.proofs.Taught.{all_taught_is_result}
use Rattle.kit_lbts.proofs.laws.looks_teach.Goals as goal

pub returns-clause-lasts : goal.returns-clause-lasts
returns-clause-lasts c = known_lasts

pub returns-clause-look : goal.returns-clause-look
returns-clause-look c = looks_teach

pub returns-clause-result : goal.returns-clause-result
returns-clause-result c = all_taught_is_result
