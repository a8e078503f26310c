-- masks of 0 have no bit
use Rattle.kit_restore.proofs.Bits.{none_seen}
use Rattle.kit_restore.proofs.seen.SeenNumbers.new.Goals as goal

pub returns : goal.returns
returns c sender number = none_seen 16385 sender number
