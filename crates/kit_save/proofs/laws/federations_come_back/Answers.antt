use Rattle.kit_save.specs.Values.{federation_value}
use Rattle.kit_save.proofs.Federations.{federation_taken, federation_said}
use Rattle.kit_save.proofs.laws.federations_come_back.Goals as goal

pub returns-clause-alone : goal.returns-clause-alone
returns-clause-alone c = λ p is word. federation_taken p (federation_value p) is word (federation_said p)

pub returns-clause-beside_others : goal.returns-clause-beside_others
returns-clause-beside_others c = federation_taken
