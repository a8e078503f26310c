use Rattle.std.proofs.Common.{length}
use Rattle.kit_file.proofs.actions.last_kinds_in.Goals as goal

pub returns-then-is_some-2-clause-sound : goal.returns-then-is_some-2-clause-sound
returns-then-is_some-2-clause-sound c = λ groups. c.tar_in.ensures.sound groups (length c.args.vars.now) c.args.lookahead

pub returns-then-is_some-3-clause-sound : goal.returns-then-is_some-3-clause-sound
returns-then-is_some-3-clause-sound c = λ groups. c.ner_in.ensures.sound groups (length c.args.vars.now) c.args.lookahead
