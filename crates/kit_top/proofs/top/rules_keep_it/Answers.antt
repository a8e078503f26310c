use Rattle.kit_top.proofs.Kept.{rules_keep_it_law}
use Rattle.kit_top.proofs.top.rules_keep_it.Goals as goal

pub returns : goal.returns
returns c = rules_keep_it_law
