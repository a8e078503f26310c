use Rattle.std.proofs.Common.{ℕ, refl, sym, ◌∙◌}
use Rattle.kit_ground.specs.declared.address.Address.TheVariants.{Mail}
use Rattle.kit_ground.specs.declared.place.Deed.TheVariants.{Collected}
use Rattle.kit_pool.specs.Pools.{as_it_is, bare_rule, no_client}
use Rattle.kit_pool.specs.Seating.{Plans, place_in}
use Rattle.kit_pool.proofs.Calls.{plan_at, there_at, told_at}
use Rattle.kit_pool.proofs.Owning.{own_numbers}
use Rattle.kit_pool.proofs.PoolWords.{mail_behind}
use Rattle.kit_pool.proofs.pool.TableSeat+Bare.collect.Goals as goal

pub place_of-at-requires-clause-there : goal.place_of-at-requires-clause-there
place_of-at-requires-clause-there c =
    let s = c.args.self.now in
    let first : ℕ → _ = no_client in
    let p = place_in first s.seat.me.0 in
    let own = own_numbers first s.number s.federates s.buffers s.seat.me.0 s.own in
    let plan : Plans bare_rule as_it_is p (Mail p.own.number c.args.from c.args.word) (λ _. 0) (λ n. Collected c.args.from c.args.word n) = record { address = λ n. refl; makes = λ n. refl; allowed = λ n. (c.requires.from, c.requires.other, c.requires.word, refl); keeps = λ m places w. record { client = tt; guests = λ h sees. tt } } in
    there_at bare_rule first s.number s.federates s.buffers s.seat.me.0 s.own s.within as_it_is (Mail c.number-to.result c.args.from c.args.word) (Mail p.own.number c.args.from c.args.word) (λ t. Mail ((c.number-to.ensures ∙ sym own.0) t) c.args.from c.args.word) (λ _. 0) (λ n. Collected c.args.from c.args.word n) plan _ _ refl refl

pub place_of-at-requires-clause-pool : goal.place_of-at-requires-clause-pool
place_of-at-requires-clause-pool c = mail_behind _ _ _ _ _

pub swap-requires-clause-plan : goal.swap-requires-clause-plan
swap-requires-clause-plan c =
    let s = c.args.self.now in
    let first : ℕ → _ = no_client in
    let p = place_in first s.seat.me.0 in
    let own = own_numbers first s.number s.federates s.buffers s.seat.me.0 s.own in
    let plan : Plans bare_rule as_it_is p (Mail p.own.number c.args.from c.args.word) (λ _. 0) (λ n. Collected c.args.from c.args.word n) = record { address = λ n. refl; makes = λ n. refl; allowed = λ n. (c.requires.from, c.requires.other, c.requires.word, refl); keeps = λ m places w. record { client = tt; guests = λ h sees. tt } } in
    plan_at bare_rule first s.number s.federates s.buffers s.seat.me.0 s.own s.within as_it_is (Mail c.number-to.result c.args.from c.args.word) (Mail p.own.number c.args.from c.args.word) (λ t. Mail ((c.number-to.ensures ∙ sym own.0) t) c.args.from c.args.word) (λ _. 0) (λ n. Collected c.args.from c.args.word n) plan

pub returns-clause-told : goal.returns-clause-told
returns-clause-told c =
    let s = c.args.self.now in
    let first : ℕ → _ = no_client in
    let p = place_in first s.seat.me.0 in
    let own = own_numbers first s.number s.federates s.buffers s.seat.me.0 s.own in
    let plan : Plans bare_rule as_it_is p (Mail p.own.number c.args.from c.args.word) (λ _. 0) (λ n. Collected c.args.from c.args.word n) = record { address = λ n. refl; makes = λ n. refl; allowed = λ n. (c.requires.from, c.requires.other, c.requires.word, refl); keeps = λ m places w. record { client = tt; guests = λ h sees. tt } } in
    told_at bare_rule first s.number s.federates s.buffers s.seat.me.0 s.own s.within as_it_is (Mail c.number-to.result c.args.from c.args.word) (Mail p.own.number c.args.from c.args.word) (λ t. Mail ((c.number-to.ensures ∙ sym own.0) t) c.args.from c.args.word) (λ _. 0) (λ n. Collected c.args.from c.args.word n) plan c.swap.result c.swap.ensures.told
