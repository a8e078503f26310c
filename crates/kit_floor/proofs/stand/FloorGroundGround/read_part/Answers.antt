use Rattle.std.proofs.Common.{◌≡◌, ◌==◌, ℕ, ◌+◌, ◌-◌, ◌*◌, ◌/◌, ◌%◌, ◌^◌, ◌<◌, ◌≤◌, refl, sym, ap, ◌∙◌, subst, arith}
use Rattle.std.specs.Prelude.{bit_or}
use Rattle.kit_ground.specs.declared.address.Address.TheVariants.{Register, Stop, Mail, Count, Part}
use Rattle.kit_ground.specs.declared.place.Deed.TheVariants.{Looked, Published, Stopped, SawStop, SawFree, Wrote, Charged, PostedTo, Collected, ReadPart, Released}
use Rattle.kit_pool.specs.Pools.{as_it_is, bare_rule, no_client}
use Rattle.kit_pool.specs.Seating.{Plans, place_in}
use Rattle.kit_pool.proofs.Calls.{did_as, did_at, plan_at, there_at, told_at}
use Rattle.kit_pool.proofs.Owning.{own_numbers}
use Rattle.kit_pool.proofs.PoolWords.{count_behind, mail_behind, part_behind}
use Rattle.kit_floor.proofs.stand.FloorGroundGround.read_part.Goals as goal

pub index-at-requires-clause-there : goal.index-at-requires-clause-there
index-at-requires-clause-there g c =
    let s = c.args.self.now.seat in
    let first : ℕ → _ = g.P.Protocol.first c.args.self.now.floor.now.table.shared.key.opening.value in
    let p = place_in first s.seat.me.0 in
    let own = own_numbers first s.number s.federates s.buffers s.seat.me.0 s.own in
    let plan : Plans g.P.Protocol.rule g.E.Event.next p (Part c.args.from c.args.buffer c.args.part) (λ n. n) (λ n. ReadPart c.args.from c.args.buffer c.args.part n) = record { address = λ n. refl; makes = λ n. refl; allowed = λ n. (c.requires.from, c.requires.buffer, c.requires.part, c.requires.held, refl); keeps = c.requires.rule } in
    there_at g.P.Protocol.rule first s.number s.federates s.buffers s.seat.me.0 s.own s.within g.E.Event.next (Part c.args.from c.args.buffer c.args.part) (Part c.args.from c.args.buffer c.args.part) refl (λ n. n) (λ n. ReadPart c.args.from c.args.buffer c.args.part n) plan _ _ c.federates.ensures c.buffers.ensures

pub load-requires-clause-plan : goal.load-requires-clause-plan
load-requires-clause-plan g c =
    let s = c.args.self.now.seat in
    let first : ℕ → _ = g.P.Protocol.first c.args.self.now.floor.now.table.shared.key.opening.value in
    let p = place_in first s.seat.me.0 in
    let own = own_numbers first s.number s.federates s.buffers s.seat.me.0 s.own in
    let plan : Plans g.P.Protocol.rule g.E.Event.next p (Part c.args.from c.args.buffer c.args.part) (λ n. n) (λ n. ReadPart c.args.from c.args.buffer c.args.part n) = record { address = λ n. refl; makes = λ n. refl; allowed = λ n. (c.requires.from, c.requires.buffer, c.requires.part, c.requires.held, refl); keeps = c.requires.rule } in
    plan_at g.P.Protocol.rule first s.number s.federates s.buffers s.seat.me.0 s.own s.within g.E.Event.next (Part c.args.from c.args.buffer c.args.part) (Part c.args.from c.args.buffer c.args.part) refl (λ n. n) (λ n. ReadPart c.args.from c.args.buffer c.args.part n) plan

pub returns-clause-did : goal.returns-clause-did
returns-clause-did g c =
    let s = c.args.self.now.seat in
    let first : ℕ → _ = g.P.Protocol.first c.args.self.now.floor.now.table.shared.key.opening.value in
    let p = place_in first s.seat.me.0 in
    let own = own_numbers first s.number s.federates s.buffers s.seat.me.0 s.own in
    let plan : Plans g.P.Protocol.rule g.E.Event.next p (Part c.args.from c.args.buffer c.args.part) (λ n. n) (λ n. ReadPart c.args.from c.args.buffer c.args.part n) = record { address = λ n. refl; makes = λ n. refl; allowed = λ n. (c.requires.from, c.requires.buffer, c.requires.part, c.requires.held, refl); keeps = c.requires.rule } in
    did_at g.P.Protocol.rule first s.number s.federates s.buffers s.seat.me.0 s.own s.within g.E.Event.next (Part c.args.from c.args.buffer c.args.part) (Part c.args.from c.args.buffer c.args.part) refl (λ n. n) (λ n. ReadPart c.args.from c.args.buffer c.args.part n) plan c.load.result c.load.ensures.told _ (ap (place_in (g.P.Protocol.first c.args.self.now.floor.now.table.shared.key.opening.value)) c.load.ensures.place)

pub returns-clause-place : goal.returns-clause-place
returns-clause-place g c = ap (place_in (g.P.Protocol.first c.args.self.now.floor.now.table.shared.key.opening.value)) c.load.ensures.place

pub returns-clause-told : goal.returns-clause-told
returns-clause-told g c =
    let s = c.args.self.now.seat in
    let first : ℕ → _ = g.P.Protocol.first c.args.self.now.floor.now.table.shared.key.opening.value in
    let p = place_in first s.seat.me.0 in
    let own = own_numbers first s.number s.federates s.buffers s.seat.me.0 s.own in
    let plan : Plans g.P.Protocol.rule g.E.Event.next p (Part c.args.from c.args.buffer c.args.part) (λ n. n) (λ n. ReadPart c.args.from c.args.buffer c.args.part n) = record { address = λ n. refl; makes = λ n. refl; allowed = λ n. (c.requires.from, c.requires.buffer, c.requires.part, c.requires.held, refl); keeps = c.requires.rule } in
    told_at g.P.Protocol.rule first s.number s.federates s.buffers s.seat.me.0 s.own s.within g.E.Event.next (Part c.args.from c.args.buffer c.args.part) (Part c.args.from c.args.buffer c.args.part) refl (λ n. n) (λ n. ReadPart c.args.from c.args.buffer c.args.part n) plan c.load.result c.load.ensures.told
