use Rattle.kit_rules.proofs.Dues.{dues_by_the_least_law}
use Rattle.kit_rules.proofs.laws.dues_by_the_least.Goals as goal

pub returns : goal.returns
returns c = dues_by_the_least_law
