use Rattle.std.proofs.Common.{length}
use Rattle.kit_file.proofs.Pushes.{one_more_bit}
use Rattle.kit_file.proofs.groups.with_member.Goals as goal

pub returns-then-bits-bit-eq0-clause-fits : goal.returns-then-bits-bit-eq0-clause-fits
returns-then-bits-bit-eq0-clause-fits c = one_more_bit (length c.args.names.now) c.args.bits c.in-Some-position_in.j c.in-Some-position_in.ensures.low c.requires.fits
