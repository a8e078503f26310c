use Rattle.kit_base.proofs.Layouts.{heads_are_words_law}
use Rattle.kit_base.proofs.laws.heads_are_words.Goals as goal

pub returns : goal.returns
returns c = heads_are_words_law
