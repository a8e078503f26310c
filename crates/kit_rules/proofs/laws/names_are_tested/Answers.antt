use Rattle.kit_rules.proofs.NameForms.{names_are_tested_law}
use Rattle.kit_rules.proofs.laws.names_are_tested.Goals as goal

pub returns : goal.returns
returns c = names_are_tested_law
