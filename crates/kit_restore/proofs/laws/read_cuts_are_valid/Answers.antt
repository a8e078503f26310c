use Rattle.kit_restore.proofs.Cuts.{read_cuts_valid}
use Rattle.kit_restore.proofs.laws.read_cuts_are_valid.Goals as goal

pub returns : goal.returns
returns c = read_cuts_valid
