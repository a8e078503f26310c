use Rattle.kit_laws.proofs.Needs.{need_is_greatest_law}
use Rattle.kit_laws.proofs.laws.need_is_greatest.Goals as goal

pub returns : goal.returns
returns c = need_is_greatest_law
