use Rattle.kit_parts.proofs.Promising.{post_keeps_promise_law}
use Rattle.kit_parts.proofs.promises.post_keeps_promise.Goals as goal

pub returns : goal.returns
returns c = post_keeps_promise_law
