use Rattle.kit_save.proofs.Cuts.{saved_taken}
use Rattle.kit_save.proofs.laws.cuts_come_back.Goals as goal

pub returns : goal.returns
returns c = saved_taken
