use Rattle.kit_gen.specs.Generator.{federate_of}
use Rattle.kit_gen.proofs.Made.{one_more}
use Rattle.kit_gen.proofs.federates.federates_of.Goals as goal

pub loop-federate-preserved : goal.loop-federate-preserved
loop-federate-preserved c = one_more (federate_of c.args.seed c.args.count) c.loop-federate.federate c.loop-federate.federates c.push.new.self c.in_ok-federate_of.field-0 c.loop-federate.invariant c.in_ok-federate_of.ensures c.in_ok-push.ensures.ok
