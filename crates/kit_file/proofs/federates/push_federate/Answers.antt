use Rattle.std.proofs.Common.{length}
use Rattle.kit_file.proofs.Pushes.{one_more_federate}
use Rattle.kit_file.proofs.federates.push_federate.Goals as goal

pub returns-in_ok-push-in-Ok-clause-kept : goal.returns-in_ok-push-in-Ok-clause-kept
returns-in_ok-push-in-Ok-clause-kept c = rw c.in_ok-push-in-Ok.ensures.ok (one_more_federate (length c.args.known.now.groups) (length c.args.known.now.targets) c.args.names.now c.args.done.now c.in-Ok.federate c.args.i c.index-names-i.result c.requires.here c.requires.count c.index-names-i.is c.in-Ok.ensures.called c.requires.kept c.in-Ok.ensures.sound)
