use Rattle.std.proofs.Common.{arith}
use Rattle.kit_courier.proofs.Openings.{opens_told}
use Rattle.letter_threads.proofs.trades.trade_on_threads.Goals as goal

pub lay-requires-clause-rule : goal.lay-requires-clause-rule
lay-requires-clause-rule g c = opens_told c.new-about.result.value c.args.federates 65 c.new-about.ensures
