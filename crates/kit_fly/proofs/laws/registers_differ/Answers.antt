use Rattle.kit_fly.proofs.Sources.{registers_differ}
use Rattle.kit_fly.proofs.laws.registers_differ.Goals as goal

pub returns : goal.returns
returns c = registers_differ
