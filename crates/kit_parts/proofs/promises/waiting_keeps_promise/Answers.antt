use Rattle.kit_parts.proofs.Promising.{waiting_keeps_promise_law}
use Rattle.kit_parts.proofs.promises.waiting_keeps_promise.Goals as goal

pub returns : goal.returns
returns c = waiting_keeps_promise_law
