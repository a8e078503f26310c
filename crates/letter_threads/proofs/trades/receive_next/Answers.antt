use Rattle.std.proofs.Common.{◌<◌, ℕ, arith}
use Rattle.kit_ground.specs.Layout.{mail_words}
use Rattle.kit_ground.proofs.MailWords.{word_there}
use Rattle.letter_threads.proofs.trades.receive_next.Goals as goal

pub receive-requires-clause-word : goal.receive-requires-clause-word
receive-requires-clause-word g c =
    let b : ℕ = (g.G.Ground.place c.args.seat.now).own.buffers in
    let two : 1 < mail_words b = word_there b 64 c.requires.wide in
    omega (arith, two, c.requires.word)

pub returns-then-ne-clause-same : goal.returns-then-ne-clause-same
returns-then-ne-clause-same g c = g.met.G.Ground.came_same _ _ c.receive.ensures.came

pub returns-else-ne-clause-same : goal.returns-else-ne-clause-same
returns-else-ne-clause-same g c = g.met.G.Ground.came_same _ _ c.receive.ensures.came
