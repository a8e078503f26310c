use Rattle.kit_parts.proofs.Promising.{receipt_keeps_promise_law}
use Rattle.kit_parts.proofs.promises.receipt_keeps_promise.Goals as goal

pub returns : goal.returns
returns c = receipt_keeps_promise_law
