use Rattle.std.proofs.Common.{ℕ, refl, sym, ◌∙◌}
use Rattle.kit_ground.specs.declared.address.Address.TheVariants.{Part}
use Rattle.kit_ground.specs.declared.place.Deed.TheVariants.{Wrote}
use Rattle.kit_pool.specs.Pools.{as_it_is, bare_rule, no_client}
use Rattle.kit_pool.specs.Seating.{Plans, place_in}
use Rattle.kit_pool.proofs.Calls.{plan_at, there_at, told_at}
use Rattle.kit_pool.proofs.Owning.{own_numbers}
use Rattle.kit_pool.proofs.PoolWords.{part_behind}
use Rattle.kit_pool.proofs.pool.TableSeat+Bare.write_part.Goals as goal

pub place_of-at-requires-clause-there : goal.place_of-at-requires-clause-there
place_of-at-requires-clause-there c =
    let s = c.args.self.now in
    let first : ℕ → _ = no_client in
    let p = place_in first s.seat.me.0 in
    let own = own_numbers first s.number s.federates s.buffers s.seat.me.0 s.own in
    let plan : Plans bare_rule as_it_is p (Part p.own.number c.args.buffer c.args.part) (λ _. c.args.word) (λ _. Wrote c.args.buffer c.args.part c.args.word) = record { address = λ n. refl; makes = λ n. refl; allowed = λ n. (c.requires.buffer, c.requires.part, c.requires.free); keeps = λ m places w. record { client = tt; guests = λ h sees. tt } } in
    there_at bare_rule first s.number s.federates s.buffers s.seat.me.0 s.own s.within as_it_is (Part c.number-owner.result c.args.buffer c.args.part) (Part p.own.number c.args.buffer c.args.part) (λ t. Part ((c.number-owner.ensures ∙ sym own.0) t) c.args.buffer c.args.part) (λ _. c.args.word) (λ _. Wrote c.args.buffer c.args.part c.args.word) plan _ _ refl refl

pub place_of-at-requires-clause-pool : goal.place_of-at-requires-clause-pool
place_of-at-requires-clause-pool c = part_behind _ _ _ _ _

pub store-requires-clause-plan : goal.store-requires-clause-plan
store-requires-clause-plan c =
    let s = c.args.self.now in
    let first : ℕ → _ = no_client in
    let p = place_in first s.seat.me.0 in
    let own = own_numbers first s.number s.federates s.buffers s.seat.me.0 s.own in
    let plan : Plans bare_rule as_it_is p (Part p.own.number c.args.buffer c.args.part) (λ _. c.args.word) (λ _. Wrote c.args.buffer c.args.part c.args.word) = record { address = λ n. refl; makes = λ n. refl; allowed = λ n. (c.requires.buffer, c.requires.part, c.requires.free); keeps = λ m places w. record { client = tt; guests = λ h sees. tt } } in
    plan_at bare_rule first s.number s.federates s.buffers s.seat.me.0 s.own s.within as_it_is (Part c.number-owner.result c.args.buffer c.args.part) (Part p.own.number c.args.buffer c.args.part) (λ t. Part ((c.number-owner.ensures ∙ sym own.0) t) c.args.buffer c.args.part) (λ _. c.args.word) (λ _. Wrote c.args.buffer c.args.part c.args.word) plan

pub returns-clause-told : goal.returns-clause-told
returns-clause-told c =
    let s = c.args.self.now in
    let first : ℕ → _ = no_client in
    let p = place_in first s.seat.me.0 in
    let own = own_numbers first s.number s.federates s.buffers s.seat.me.0 s.own in
    let plan : Plans bare_rule as_it_is p (Part p.own.number c.args.buffer c.args.part) (λ _. c.args.word) (λ _. Wrote c.args.buffer c.args.part c.args.word) = record { address = λ n. refl; makes = λ n. refl; allowed = λ n. (c.requires.buffer, c.requires.part, c.requires.free); keeps = λ m places w. record { client = tt; guests = λ h sees. tt } } in
    (c.store.ensures.told.0, told_at bare_rule first s.number s.federates s.buffers s.seat.me.0 s.own s.within as_it_is (Part c.number-owner.result c.args.buffer c.args.part) (Part p.own.number c.args.buffer c.args.part) (λ t. Part ((c.number-owner.ensures ∙ sym own.0) t) c.args.buffer c.args.part) (λ _. c.args.word) (λ _. Wrote c.args.buffer c.args.part c.args.word) plan c.store.ensures.told.0 c.store.ensures.told.1)
