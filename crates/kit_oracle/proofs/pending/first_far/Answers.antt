use Rattle.std.proofs.Common.{sym}
use Rattle.kit_oracle.proofs.Keeping.{first_is}
use Rattle.kit_oracle.proofs.pending.first_far.Goals as goal

pub returns-in-Some : goal.returns-in-Some
returns-in-Some c = sym (first_is c.args.far.now.entries c.in-Some.field-0-0.now c.in-Some.message.now c.in-Some.ensures.first)
