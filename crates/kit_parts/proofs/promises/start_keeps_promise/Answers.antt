use Rattle.kit_parts.proofs.Promising.{start_keeps_promise_law}
use Rattle.kit_parts.proofs.promises.start_keeps_promise.Goals as goal

pub returns : goal.returns
returns c = start_keeps_promise_law
