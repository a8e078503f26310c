use Rattle.kit_rules.proofs.Lookaheads.{lookahead_is_positive}
use Rattle.kit_rules.proofs.laws.lookaheads_are_positive.Goals as goal

pub returns : goal.returns
returns c = lookahead_is_positive
