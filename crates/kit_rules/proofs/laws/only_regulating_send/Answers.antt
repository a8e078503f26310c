use Rattle.kit_rules.proofs.Timely.{only_regulating_send}
use Rattle.kit_rules.proofs.laws.only_regulating_send.Goals as goal

pub returns : goal.returns
returns c = only_regulating_send
