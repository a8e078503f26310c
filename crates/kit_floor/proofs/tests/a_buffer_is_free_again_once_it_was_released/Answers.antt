use Rattle.std.proofs.Common.{ap, arith}
use Rattle.kit_ground.proofs.MailWords.{some_words}
use Rattle.kit_pool.specs.Pools.{no_client}
use Rattle.kit_pool.proofs.Owning.{own_numbers}
use Rattle.kit_floor.proofs.tests.a_buffer_is_free_again_once_it_was_released.Goals as goal

pub collect-mail-requires-clause-word : goal.collect-mail-requires-clause-word
collect-mail-requires-clause-word g c =
    let s = c.stand-second.result.seat in
    let own = own_numbers no_client s.number s.federates s.buffers s.seat.me.0 s.own in
    let wide = ap (λ x. x.buffers) c.stand-second.ensures.seat in
    let laid = c.in_ok-floor.ensures in
    some_words _ (omega (arith, own.2, wide, laid.second.seat.as_wide, laid.buffers))
