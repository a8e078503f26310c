use Rattle.kit_base.proofs.Layouts.{bodies_are_words_law}
use Rattle.kit_base.proofs.laws.bodies_are_words.Goals as goal

pub returns : goal.returns
returns c = bodies_are_words_law
