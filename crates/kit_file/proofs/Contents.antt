-- What a file says: its federation and its plan, or its fault.
use Rattle.std.proofs.Common.{Result, Ok, Err, refl}
use Rattle.serde_json.specs.Data.{Data}
use Rattle.kit_walk.specs.declared.fault.Fault.{Fault}
use Rattle.kit_file.specs.declared.content.Content.{Content}
use Rattle.kit_walk.specs.declared.fault.WalkEnd.{WalkEnd}
use Rattle.kit_walk.specs.declared.fault.WalkEnd.TheVariants as walk_end
use Rattle.kit_walk.specs.Reading.{◌>>=◌}
use Rattle.kit_walk.specs.Agreement.{Gives}
use Rattle.kit_file.specs.Walk.{content_of, walk, plan_walk}

-- a part of what was read is that part of what reading gives
part_gives : {X : Type 0} (part : Content → X) (r : Result Content WalkEnd) (read : Result Content Fault) → Gives (λ c. c) r read → Gives part r (read >>= λ c. Ok (part c))
part_gives part (Ok c) read e = rw e refl
part_gives part (Err walk_end.Memory) read e = tt
part_gives part (Err (walk_end.Fault f)) read e = rw e refl

-- the federation
pub federation_gives : (r : Result Content WalkEnd) (d : Data) → Gives (λ c. c) r (content_of d) → Gives (λ c. c.federation) r (walk d)
unfolding walk
federation_gives r d e = part_gives (λ c. c.federation) r (content_of d) e

-- and the plan
pub plan_gives : (r : Result Content WalkEnd) (d : Data) → Gives (λ c. c) r (content_of d) → Gives (λ c. c.plan) r (plan_walk d)
unfolding plan_walk
plan_gives r d e = part_gives (λ c. c.plan) r (content_of d) e
