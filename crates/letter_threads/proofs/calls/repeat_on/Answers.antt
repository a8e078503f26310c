use Rattle.std.proofs.Common.{ap, arith}
use Rattle.kit_ground.proofs.MailWords.{some_words}
use Rattle.kit_pool.specs.Pools.{no_client}
use Rattle.kit_pool.proofs.Owning.{own_numbers}
use Rattle.letter_threads.proofs.calls.repeat_on.Goals as goal

pub collects-requires-clause-word : goal.collects-requires-clause-word
collects-requires-clause-word c =
    let s = c.stand-ground.result.seat in
    let own = own_numbers no_client s.number s.federates s.buffers s.seat.me.0 s.own in
    let wide = ap (λ x. x.buffers) c.stand-ground.ensures.seat in
    let same = c.requires.new.1.seat.as_wide in
    some_words _ (omega (arith, own.2, wide, same, c.requires.one))
