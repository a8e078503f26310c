use Rattle.std.proofs.Common.{◌≡◌, [], arith}
use Rattle.std.specs.BTreeMap.{values}
use Rattle.std.proofs.lemmas.Grind.{common_steps}
use Rattle.kit_oracle.proofs.Split.{popped, popped_far}
use Rattle.kit_oracle.proofs.pending.PendingMessages.pop_due.Goals as goal

pub invariant_of-self : goal.invariant_of-self
invariant_of-self c =
    (c.self.invariant.0, popped c.pop_front.result c.self.inside.near.items c.pop_front.new.self.items (values c.self.inside.far) c.pop_front.ensures.items c.self.invariant.1)

pub invariant_of-self-in-None : goal.invariant_of-self-in-None
invariant_of-self-in-None c =
    let empty : c.self.inside.near.items ≡ [] = grind (arith, common_steps) in
    (c.pop_far.ensures.by_key, popped_far c.pop_far.result c.self.inside.near.items (values c.self.inside.far) (values c.pop_far.new.far) empty c.pop_far.ensures.items c.self.invariant.1)
