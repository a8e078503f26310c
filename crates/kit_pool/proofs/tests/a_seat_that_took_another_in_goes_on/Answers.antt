use Rattle.std.proofs.Common.{arith}
use Rattle.kit_ground.proofs.MailWords.{some_words}
use Rattle.kit_pool.specs.Pools.{no_client}
use Rattle.kit_pool.proofs.Owning.{own_numbers}
use Rattle.kit_pool.proofs.tests.a_seat_that_took_another_in_goes_on.Goals as goal

pub collect-requires-clause-word : goal.collect-requires-clause-word
collect-requires-clause-word g c =
    let s = c.look_free-2.new.self in
    let own = own_numbers no_client s.number s.federates s.buffers s.seat.me.0 s.own in
    let laid = c.in_ok-pool.ensures in
    some_words _ (omega (arith, own.2, c.look_free-2.ensures.same.buffers, c.join-2.ensures.same.buffers, c.join.ensures.same.buffers, c.look_free.ensures.same.buffers, laid.first.seat.as_wide, laid.buffers))
