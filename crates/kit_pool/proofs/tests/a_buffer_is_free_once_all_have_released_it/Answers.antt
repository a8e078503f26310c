use Rattle.std.proofs.Common.{ap, arith}
use Rattle.kit_ground.proofs.MailWords.{some_words}
use Rattle.kit_pool.specs.Pools.{no_client}
use Rattle.kit_pool.specs.Seating.{place_in}
use Rattle.kit_pool.proofs.tests.a_buffer_is_free_once_all_have_released_it.Goals as goal

pub collect-mail-requires-clause-word : goal.collect-mail-requires-clause-word
collect-mail-requires-clause-word g c =
    let is = ap (λ d. (place_in no_client d).own.buffers) c.in_ok-pool.ensures.second.place in some_words _ (omega (arith, is, c.in_ok-pool.ensures.buffers))

pub collect-mail-requires-2-clause-word : goal.collect-mail-requires-2-clause-word
collect-mail-requires-2-clause-word g c =
    let is = ap (λ d. (place_in no_client d).own.buffers) c.in_ok-pool.ensures.third.place in some_words _ (omega (arith, is, c.in_ok-pool.ensures.buffers))
