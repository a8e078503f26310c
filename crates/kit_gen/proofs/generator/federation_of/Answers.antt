use Rattle.std.proofs.Common.{◌+◌, ◌%◌, ◌^◌, arith}
use Rattle.kit_gen.proofs.Limits.{made_is_federation}
use Rattle.kit_gen.proofs.generator.federation_of.Goals as goal

pub new-requires : goal.new-requires
new-requires c =
    made_is_federation (c.args.number % 2 ^ 32) (4 + c.pick.result) c.in_ok-groups.groups c.in_ok-federates.federates (omega arith) (omega (arith, c.pick.ensures.below)) c.in_ok-groups.ensures c.in_ok-federates.ensures
