use Rattle.std.proofs.Common.{arith}
use Rattle.kit_gen.proofs.Members.{members_are_short}
use Rattle.kit_gen.proofs.groups.members_of.Goals as goal

pub overflow_add-result : goal.overflow_add-result
overflow_add-result c =
    let short = members_are_short c.args.count c.args.group c.requires.count.0 c.requires.count.1 c.requires.group in omega (arith, short, c.member.ensures, c.member-2.ensures)
