use Rattle.kit_schedule.proofs.Fronts.{words_same}
use Rattle.kit_schedule.proofs.schedule.one_schedule.Goals as goal

pub returns : goal.returns
returns c words a b x y = words_same words a b x.words_are y.words_are
