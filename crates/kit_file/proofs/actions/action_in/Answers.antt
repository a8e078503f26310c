use Rattle.std.proofs.Common.{length}
use Rattle.kit_file.proofs.actions.action_in.Goals as goal

pub returns-then-is_some-clause-sound : goal.returns-then-is_some-clause-sound
returns-then-is_some-clause-sound c = c.set_in.ensures.sound (length c.args.targets.now) c.args.lookahead

pub returns-then-is_some-2-clause-sound : goal.returns-then-is_some-2-clause-sound
returns-then-is_some-2-clause-sound c = c.add_in.ensures.sound (length c.args.targets.now) c.args.lookahead

pub returns-then-is_some-3-clause-sound : goal.returns-then-is_some-3-clause-sound
returns-then-is_some-3-clause-sound c = c.sub_in.ensures.sound (length c.args.targets.now) c.args.lookahead

pub returns-clause-sound : goal.returns-clause-sound
returns-clause-sound c = c.last_kinds_in.ensures.sound (length c.args.targets.now)
