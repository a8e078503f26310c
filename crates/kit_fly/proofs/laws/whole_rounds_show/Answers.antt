use Rattle.kit_fly.proofs.Rounds.{whole_rounds_show}
use Rattle.kit_fly.proofs.laws.whole_rounds_show.Goals as goal

pub returns : goal.returns
returns c = whole_rounds_show
