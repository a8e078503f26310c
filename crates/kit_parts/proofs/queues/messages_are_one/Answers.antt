use Rattle.kit_parts.proofs.Naming.{messages_are_one_law}
use Rattle.kit_parts.proofs.queues.messages_are_one.Goals as goal

pub returns : goal.returns
returns c = messages_are_one_law
