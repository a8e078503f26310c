use Rattle.kit_ground.proofs.SetFacts.{none_held, none_owed}
use Rattle.kit_ground.proofs.laws.sets_are_exact.Goals as goal

pub returns-clause-held : goal.returns-clause-held
returns-clause-held c m stocks n b i j h li lj none = none_held m stocks n b h i li j lj none

pub returns-clause-owed : goal.returns-clause-owed
returns-clause-owed c m stocks n b i k h li lk none = none_owed m stocks n b h i k li lk none
