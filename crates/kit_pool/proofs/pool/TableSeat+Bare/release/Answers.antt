use Rattle.std.proofs.Common.{ℕ, ◌+◌, ◌-◌, ◌%◌, ◌^◌, refl}
use Rattle.kit_ground.specs.declared.address.Address.TheVariants.{Count}
use Rattle.kit_ground.specs.declared.place.Deed.TheVariants.{Released}
use Rattle.kit_pool.specs.Pools.{as_it_is, bare_rule, no_client}
use Rattle.kit_pool.specs.Seating.{Plans, place_in}
use Rattle.kit_pool.proofs.Calls.{plan_at, there_at, told_at}
use Rattle.kit_pool.proofs.Owning.{own_numbers}
use Rattle.kit_pool.proofs.PoolWords.{count_behind}
use Rattle.kit_pool.proofs.pool.TableSeat+Bare.release.Goals as goal

pub place_of-at-requires-clause-there : goal.place_of-at-requires-clause-there
place_of-at-requires-clause-there c =
    let s = c.args.self.now in
    let first : ℕ → _ = no_client in
    let p = place_in first s.seat.me.0 in
    let own = own_numbers first s.number s.federates s.buffers s.seat.me.0 s.own in
    let plan : Plans bare_rule as_it_is p (Count c.args.from c.args.buffer) (λ n. (n + (2 ^ 64 - 1)) % 2 ^ 64) (λ _. Released c.args.from c.args.buffer) = record { address = λ n. refl; makes = λ n. refl; allowed = λ n. (c.requires.from, c.requires.buffer, c.requires.held); keeps = λ m places w. record { client = tt; guests = λ h sees. tt } } in
    there_at bare_rule first s.number s.federates s.buffers s.seat.me.0 s.own s.within as_it_is (Count c.args.from c.args.buffer) (Count c.args.from c.args.buffer) refl (λ n. (n + (2 ^ 64 - 1)) % 2 ^ 64) (λ _. Released c.args.from c.args.buffer) plan _ _ refl refl

pub place_of-at-requires-clause-pool : goal.place_of-at-requires-clause-pool
place_of-at-requires-clause-pool c = count_behind _ _ _ _

pub take_one-requires-clause-plan : goal.take_one-requires-clause-plan
take_one-requires-clause-plan c =
    let s = c.args.self.now in
    let first : ℕ → _ = no_client in
    let p = place_in first s.seat.me.0 in
    let own = own_numbers first s.number s.federates s.buffers s.seat.me.0 s.own in
    let plan : Plans bare_rule as_it_is p (Count c.args.from c.args.buffer) (λ n. (n + (2 ^ 64 - 1)) % 2 ^ 64) (λ _. Released c.args.from c.args.buffer) = record { address = λ n. refl; makes = λ n. refl; allowed = λ n. (c.requires.from, c.requires.buffer, c.requires.held); keeps = λ m places w. record { client = tt; guests = λ h sees. tt } } in
    plan_at bare_rule first s.number s.federates s.buffers s.seat.me.0 s.own s.within as_it_is (Count c.args.from c.args.buffer) (Count c.args.from c.args.buffer) refl (λ n. (n + (2 ^ 64 - 1)) % 2 ^ 64) (λ _. Released c.args.from c.args.buffer) plan

pub returns-clause-told : goal.returns-clause-told
returns-clause-told c =
    let s = c.args.self.now in
    let first : ℕ → _ = no_client in
    let p = place_in first s.seat.me.0 in
    let own = own_numbers first s.number s.federates s.buffers s.seat.me.0 s.own in
    let plan : Plans bare_rule as_it_is p (Count c.args.from c.args.buffer) (λ n. (n + (2 ^ 64 - 1)) % 2 ^ 64) (λ _. Released c.args.from c.args.buffer) = record { address = λ n. refl; makes = λ n. refl; allowed = λ n. (c.requires.from, c.requires.buffer, c.requires.held); keeps = λ m places w. record { client = tt; guests = λ h sees. tt } } in
    (c.take_one.result, told_at bare_rule first s.number s.federates s.buffers s.seat.me.0 s.own s.within as_it_is (Count c.args.from c.args.buffer) (Count c.args.from c.args.buffer) refl (λ n. (n + (2 ^ 64 - 1)) % 2 ^ 64) (λ _. Released c.args.from c.args.buffer) plan c.take_one.result c.take_one.ensures.told)
