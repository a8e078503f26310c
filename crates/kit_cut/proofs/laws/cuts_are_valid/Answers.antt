use Rattle.kit_cut.proofs.Validity.{cuts_are_valid}
use Rattle.kit_cut.proofs.laws.cuts_are_valid.Goals as goal

pub returns : goal.returns
returns c = cuts_are_valid
