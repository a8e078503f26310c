use Rattle.std.proofs.Common.{ℕ, ◌/◌, refl, sym, ap, ◌∙◌, arith}
use Rattle.std.specs.Prelude.{bit_or}
use Rattle.kit_ground.specs.declared.address.Address.TheVariants.{Mail}
use Rattle.kit_ground.specs.declared.place.Deed.TheVariants.{PostedTo}
use Rattle.kit_pool.specs.Pools.{as_it_is, bare_rule, no_client}
use Rattle.kit_pool.specs.Seating.{Plans, place_in}
use Rattle.kit_pool.proofs.Calls.{plan_at, there_at, told_at}
use Rattle.kit_pool.proofs.Owning.{own_numbers}
use Rattle.kit_pool.proofs.PoolWords.{mail_behind}
use Rattle.kit_pool.proofs.pool.TableSeat+Bare.post.Goals as goal

pub mail_word-word-requires : goal.mail_word-word-requires
mail_word-word-requires c =
    let s = c.args.self.now in
    let own = own_numbers (no_client) s.number s.federates s.buffers s.seat.me.0 s.own in
    let wide = own.2 in let small = s.within.small in let below = c.requires.buffer in omega arith

pub place_of-at-requires-clause-there : goal.place_of-at-requires-clause-there
place_of-at-requires-clause-there c =
    let s = c.args.self.now in
    let first : ℕ → _ = no_client in
    let p = place_in first s.seat.me.0 in
    let own = own_numbers first s.number s.federates s.buffers s.seat.me.0 s.own in
    let plan : Plans bare_rule as_it_is p (Mail c.args.to p.own.number (c.args.buffer / 64)) (λ n. bit_or n c.mail_bit-bits.result) (λ _. PostedTo c.args.buffer c.args.to) = record { address = λ n. refl; makes = λ n. ap (bit_or n) (sym c.mail_bit-bits.ensures); allowed = λ n. (c.requires.buffer, c.requires.to, c.requires.owed); keeps = λ m places w. record { client = tt; guests = λ h sees. tt } } in
    there_at bare_rule first s.number s.federates s.buffers s.seat.me.0 s.own s.within as_it_is (Mail c.args.to c.number-from.result c.mail_word-word.result) (Mail c.args.to p.own.number (c.args.buffer / 64)) (λ t. Mail c.args.to ((c.number-from.ensures ∙ sym own.0) t) (c.mail_word-word.ensures t)) (λ n. bit_or n c.mail_bit-bits.result) (λ _. PostedTo c.args.buffer c.args.to) plan _ _ refl refl

pub place_of-at-requires-clause-pool : goal.place_of-at-requires-clause-pool
place_of-at-requires-clause-pool c = mail_behind _ _ _ _ _

pub join_bit-requires-clause-plan : goal.join_bit-requires-clause-plan
join_bit-requires-clause-plan c =
    let s = c.args.self.now in
    let first : ℕ → _ = no_client in
    let p = place_in first s.seat.me.0 in
    let own = own_numbers first s.number s.federates s.buffers s.seat.me.0 s.own in
    let plan : Plans bare_rule as_it_is p (Mail c.args.to p.own.number (c.args.buffer / 64)) (λ n. bit_or n c.mail_bit-bits.result) (λ _. PostedTo c.args.buffer c.args.to) = record { address = λ n. refl; makes = λ n. ap (bit_or n) (sym c.mail_bit-bits.ensures); allowed = λ n. (c.requires.buffer, c.requires.to, c.requires.owed); keeps = λ m places w. record { client = tt; guests = λ h sees. tt } } in
    plan_at bare_rule first s.number s.federates s.buffers s.seat.me.0 s.own s.within as_it_is (Mail c.args.to c.number-from.result c.mail_word-word.result) (Mail c.args.to p.own.number (c.args.buffer / 64)) (λ t. Mail c.args.to ((c.number-from.ensures ∙ sym own.0) t) (c.mail_word-word.ensures t)) (λ n. bit_or n c.mail_bit-bits.result) (λ _. PostedTo c.args.buffer c.args.to) plan

pub returns-clause-told : goal.returns-clause-told
returns-clause-told c =
    let s = c.args.self.now in
    let first : ℕ → _ = no_client in
    let p = place_in first s.seat.me.0 in
    let own = own_numbers first s.number s.federates s.buffers s.seat.me.0 s.own in
    let plan : Plans bare_rule as_it_is p (Mail c.args.to p.own.number (c.args.buffer / 64)) (λ n. bit_or n c.mail_bit-bits.result) (λ _. PostedTo c.args.buffer c.args.to) = record { address = λ n. refl; makes = λ n. ap (bit_or n) (sym c.mail_bit-bits.ensures); allowed = λ n. (c.requires.buffer, c.requires.to, c.requires.owed); keeps = λ m places w. record { client = tt; guests = λ h sees. tt } } in
    (c.join_bit.result, told_at bare_rule first s.number s.federates s.buffers s.seat.me.0 s.own s.within as_it_is (Mail c.args.to c.number-from.result c.mail_word-word.result) (Mail c.args.to p.own.number (c.args.buffer / 64)) (λ t. Mail c.args.to ((c.number-from.ensures ∙ sym own.0) t) (c.mail_word-word.ensures t)) (λ n. bit_or n c.mail_bit-bits.result) (λ _. PostedTo c.args.buffer c.args.to) plan c.join_bit.result c.join_bit.ensures.told)
