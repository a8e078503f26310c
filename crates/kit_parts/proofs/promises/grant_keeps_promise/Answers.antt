use Rattle.kit_parts.proofs.Promising.{grant_keeps_promise_law}
use Rattle.kit_parts.proofs.promises.grant_keeps_promise.Goals as goal

pub returns : goal.returns
returns c = grant_keeps_promise_law
