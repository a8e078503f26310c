use Rattle.std.proofs.Common.{◌==◌, ℕ, refl, sym, ◌∙◌}
use Rattle.kit_ground.specs.declared.address.Address.TheVariants.{Count}
use Rattle.kit_ground.specs.declared.place.Deed.TheVariants.{SawFree}
use Rattle.kit_pool.specs.Pools.{as_it_is, bare_rule, no_client}
use Rattle.kit_pool.specs.Seating.{Plans, place_in}
use Rattle.kit_pool.proofs.Calls.{plan_at, there_at, told_at}
use Rattle.kit_pool.proofs.Owning.{own_numbers}
use Rattle.kit_pool.proofs.PoolWords.{count_behind}
use Rattle.kit_pool.proofs.pool.TableSeat+Bare.look_free.Goals as goal

pub place_of-at-requires-clause-there : goal.place_of-at-requires-clause-there
place_of-at-requires-clause-there c =
    let s = c.args.self.now in
    let first : ℕ → _ = no_client in
    let p = place_in first s.seat.me.0 in
    let own = own_numbers first s.number s.federates s.buffers s.seat.me.0 s.own in
    let plan : Plans bare_rule as_it_is p (Count p.own.number c.args.buffer) (λ n. n) (λ n. SawFree c.args.buffer (n == 0)) = record { address = λ n. refl; makes = λ n. refl; allowed = λ n. (c.requires.buffer, c.requires.posted, refl); keeps = λ m places w. record { client = tt; guests = λ h sees. tt } } in
    there_at bare_rule first s.number s.federates s.buffers s.seat.me.0 s.own s.within as_it_is (Count c.number-owner.result c.args.buffer) (Count p.own.number c.args.buffer) (λ t. Count ((c.number-owner.ensures ∙ sym own.0) t) c.args.buffer) (λ n. n) (λ n. SawFree c.args.buffer (n == 0)) plan _ _ refl refl

pub place_of-at-requires-clause-pool : goal.place_of-at-requires-clause-pool
place_of-at-requires-clause-pool c = count_behind _ _ _ _

pub load-requires-clause-plan : goal.load-requires-clause-plan
load-requires-clause-plan c =
    let s = c.args.self.now in
    let first : ℕ → _ = no_client in
    let p = place_in first s.seat.me.0 in
    let own = own_numbers first s.number s.federates s.buffers s.seat.me.0 s.own in
    let plan : Plans bare_rule as_it_is p (Count p.own.number c.args.buffer) (λ n. n) (λ n. SawFree c.args.buffer (n == 0)) = record { address = λ n. refl; makes = λ n. refl; allowed = λ n. (c.requires.buffer, c.requires.posted, refl); keeps = λ m places w. record { client = tt; guests = λ h sees. tt } } in
    plan_at bare_rule first s.number s.federates s.buffers s.seat.me.0 s.own s.within as_it_is (Count c.number-owner.result c.args.buffer) (Count p.own.number c.args.buffer) (λ t. Count ((c.number-owner.ensures ∙ sym own.0) t) c.args.buffer) (λ n. n) (λ n. SawFree c.args.buffer (n == 0)) plan

pub returns-clause-told : goal.returns-clause-told
returns-clause-told c =
    let s = c.args.self.now in
    let first : ℕ → _ = no_client in
    let p = place_in first s.seat.me.0 in
    let own = own_numbers first s.number s.federates s.buffers s.seat.me.0 s.own in
    let plan : Plans bare_rule as_it_is p (Count p.own.number c.args.buffer) (λ n. n) (λ n. SawFree c.args.buffer (n == 0)) = record { address = λ n. refl; makes = λ n. refl; allowed = λ n. (c.requires.buffer, c.requires.posted, refl); keeps = λ m places w. record { client = tt; guests = λ h sees. tt } } in
    (c.load.result, told_at bare_rule first s.number s.federates s.buffers s.seat.me.0 s.own s.within as_it_is (Count c.number-owner.result c.args.buffer) (Count p.own.number c.args.buffer) (λ t. Count ((c.number-owner.ensures ∙ sym own.0) t) c.args.buffer) (λ n. n) (λ n. SawFree c.args.buffer (n == 0)) plan c.load.result c.load.ensures.told, refl)
