use Rattle.std.proofs.Common.{ap, arith}
use Rattle.kit_ground.specs.declared.place.Place.{Place}
use Rattle.kit_ground.proofs.MailWords.{some_words, word_there}
use Rattle.kit_pool.specs.Pools.{no_client}
use Rattle.kit_pool.proofs.Owning.{own_numbers}
use Rattle.kit_floor.proofs.tests.mail_goes_by_64_buffers.Goals as goal

pub collect-requires-clause-word : goal.collect-requires-clause-word
collect-requires-clause-word g c =
    let s = c.stand-second.result.seat in
    let own = own_numbers no_client s.number s.federates s.buffers s.seat.me.0 s.own in
    let wide = ap (λ x. x.buffers) c.stand-second.ensures.seat in
    let laid = c.in_ok-floor.ensures in
    some_words _ (omega (arith, own.2, wide, laid.second.seat.as_wide, laid.buffers))

pub collect-requires-2-clause-word : goal.collect-requires-2-clause-word
collect-requires-2-clause-word g c =
    let s = c.stand-second.result.seat in
    let own = own_numbers no_client s.number s.federates s.buffers s.seat.me.0 s.own in
    let wide = ap (λ x. x.buffers) c.stand-second.ensures.seat in
    let laid = c.in_ok-floor.ensures in
    let same = ap (λ (p : Place (Unit {0})). p.own.buffers) c.collect.ensures.place in
    word_there _ 64 (omega (arith, same, own.2, wide, laid.second.seat.as_wide, laid.buffers))
