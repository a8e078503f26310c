use Rattle.kit_top.proofs.Telling.{answered_told}
use Rattle.kit_top.proofs.commands.plain.Goals as goal

pub returns-clause-done : goal.returns-clause-done
returns-clause-done g c e = answered_told g.S.Source _ _ _ _ _ c.answer.result e c.answer.ensures.told
