use Rattle.kit_gen.specs.Generator.{group_of}
use Rattle.kit_gen.proofs.Made.{one_more}
use Rattle.kit_gen.proofs.groups.groups_of.Goals as goal

pub loop-group-preserved : goal.loop-group-preserved
loop-group-preserved c = one_more (group_of c.args.count) c.loop-group.group c.loop-group.groups c.push.new.self c.in_ok-group_of.field-0 c.loop-group.invariant c.in_ok-group_of.ensures c.in_ok-push.ensures.ok
