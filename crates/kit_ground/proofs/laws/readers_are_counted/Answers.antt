use Rattle.kit_ground.proofs.SetFacts.{count_above, count_small, none_due}
use Rattle.kit_ground.proofs.laws.readers_are_counted.Goals as goal

pub returns-clause-counted : goal.returns-clause-counted
returns-clause-counted c m stocks n b i k j h li lk lj = count_above m stocks n b h i k li lk j lj

pub returns-clause-free : goal.returns-clause-free
returns-clause-free c m stocks n b i k j h li lk lj free = none_due m stocks n b h i k li lk j lj (h.free i k li lk free)

pub returns-clause-uncounted : goal.returns-clause-uncounted
returns-clause-uncounted c m stocks n b i k j h li lk lj none = none_due m stocks n b h i k li lk j lj none

pub returns-clause-small : goal.returns-clause-small
returns-clause-small c m stocks n b i k h li lk = count_small m stocks n b h i k li lk
