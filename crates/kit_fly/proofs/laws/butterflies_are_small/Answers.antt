use Rattle.kit_fly.proofs.Sources.{registers_are_few}
use Rattle.kit_fly.proofs.laws.butterflies_are_small.Goals as goal

pub returns : goal.returns
returns c = registers_are_few
