use Rattle.kit_cut.proofs.Numbered.{timely_numbered}
use Rattle.kit_cut.proofs.valid.are_pending.Goals as goal

pub numbers_differ-requires : goal.numbers_differ-requires
numbers_differ-requires c =
    timely_numbered c.args.federation.now c.args.at c.args.nexts.now c.args.i c.args.time c.args.request c.args.pending.now c.keeps_its_limits.ensures c.requires.nexts c.requires.low
    (c.are_timely.ensures.0 c.if-not-are_timely.false)
