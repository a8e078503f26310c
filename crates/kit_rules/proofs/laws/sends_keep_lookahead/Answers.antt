use Rattle.kit_rules.proofs.Timely.{sends_keep_lookahead}
use Rattle.kit_rules.proofs.laws.sends_keep_lookahead.Goals as goal

pub returns : goal.returns
returns c = sends_keep_lookahead
