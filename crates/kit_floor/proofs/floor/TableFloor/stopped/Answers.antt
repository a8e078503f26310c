use Rattle.std.proofs.Common.{refl}
use Rattle.kit_floor.proofs.floor.TableFloor.stopped.Goals as goal

pub load-requires-clause-plan : goal.load-requires-clause-plan
load-requires-clause-plan g c = record { address = λ n. refl; looks = λ n. tt; allowed = λ n. refl; keeps = c.requires.rule }

pub returns-clause-told : goal.returns-clause-told
returns-clause-told g c = (c.load.result, c.load.ensures.told, refl)
