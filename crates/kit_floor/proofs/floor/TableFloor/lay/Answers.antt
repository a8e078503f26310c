use Rattle.std.proofs.Common.{arith}
use Rattle.kit_floor.proofs.floor.TableFloor.lay.Goals as goal

pub lay_for-requires-clause-sees : goal.lay_for-requires-clause-sees
lay_for-requires-clause-sees g c = λ k none. absurd (omega arith)
