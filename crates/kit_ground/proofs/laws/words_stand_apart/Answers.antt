use Rattle.kit_ground.proofs.Layouts.{on_floor, one_word, memory_set}
use Rattle.kit_ground.proofs.laws.words_stand_apart.Goals as goal

pub returns-clause-inside : goal.returns-clause-inside
returns-clause-inside c = on_floor

pub returns-clause-apart : goal.returns-clause-apart
returns-clause-apart c = one_word

pub returns-clause-stored : goal.returns-clause-stored
returns-clause-stored c = memory_set
