use Rattle.kit_file.proofs.KeysMean.{keys_mean}
use Rattle.kit_file.proofs.laws.keys_mean.Goals as goal

pub returns : goal.returns
returns c = keys_mean
