use Rattle.std.proofs.Common.{arith, length}
use Rattle.kit_file.proofs.Pushes.{federates_are}
use Rattle.kit_file.proofs.federates.federates_in.Goals as goal

pub returns-clause-sound : goal.returns-clause-sound
returns-clause-sound c = federates_are (length c.args.known.now.groups) (length c.args.known.now.targets) c.args.names.now c.loop-i.done c.loop-i.invariant.kept (omega (arith, c.loop-i.invariant.count, c.requires.count, c.loop-i-test.false, c.loop-i.auto.i-end)) c.requires.given c.requires.low c.requires.high
