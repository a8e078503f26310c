use Rattle.std.proofs.Common.{◌≡◌, ℕ, ◌<◌, true, List, length, get_or, set, refl, sym, ap, ◌∙◌, subst, arith}
use Rattle.std.specs.Vec.{with_item}
use Rattle.std.proofs.lemmas.Bool.{false≢true}
use mathlib.Core.Option.{some, some-injective}
use lib.ListN.{get_elem?}
use Rattle.kit_deal.specs.Dealings.{is_last_turn}
use Rattle.kit_ground.proofs.Lists.{at_inside, at_or}
use Rattle.kit_replay.specs.Replays.{LbtsFloor}
use Rattle.kit_replay.proofs.Lists.{at_set_here}
use Rattle.kit_runner.specs.declared.stage.Member.{Member}
use Rattle.kit_runner.specs.declared.stage.Stage.{Stage}
use Rattle.kit_runner.proofs.LockTaking.{at_first, ended_now, set_same, stage_now, stage_same, stays_now}
use Rattle.kit_runner.proofs.stage.Stage.give_turn.Goals as goal

-- the member that was found
found : (l : List Member) (k i : ℕ) (x : Member) → k ≡ i → k < length l → x ≡ get_or l k x → get_elem? l i ≡ some x
found l k i x same lt is = subst (λ (j : ℕ). get_elem? l j ≡ some x) same (at_or l k x lt ∙ ap some (sym is))

pub returns-in_default-clause-ended : goal.returns-in_default-clause-ended
returns-in_default-clause-ended c e x at =
    let lt : c.args.federate < length c.args.self.now.members.items = at_inside c.args.self.now.members.items c.args.federate x at in
    absurd (false≢true (c.in_default.ensures.variant.1 (omega (arith, lt, c.from.ensures, c.args.self.now.members.ok.0))))

-- the member that was found had ended
pub returns-then-member-clause-stage : goal.returns-then-member-clause-stage
returns-then-member-clause-stage c =
    let s : Stage = c.args.self.now in
    let x : Member = c.in-Some.member.now in
    let at = found s.members.items c.from.result c.args.federate x c.from.ensures c.in-Some.ensures.item.3.0 c.in-Some.ensures.value in
    stage_same c.args.federation.now s (record { floor = s.floor; members = with_item s.members c.from.result x; reports = s.reports }) refl
    (ap (λ (k : ℕ). set s.members.items k x) c.from.ensures ∙ set_same s.members.items c.args.federate x at) refl c.requires

pub returns-then-member-clause-ended : goal.returns-then-member-clause-ended
returns-then-member-clause-ended c e y aty =
    let l : List Member = c.args.self.now.members.items in
    let x : Member = c.in-Some.member.now in
    let at = found l c.from.result c.args.federate x c.from.ensures c.in-Some.ensures.item.3.0 c.in-Some.ensures.value in
    let same : get_elem? (set l c.from.result x) c.args.federate ≡ some x = ap (λ (k : ℕ). get_elem? (set l k x) c.args.federate) c.from.ensures ∙ at_set_here l c.args.federate x (at_inside l c.args.federate x at) in
    subst (λ (z : Member). z.has_ended ≡ true) (some-injective _ _ (sym same ∙ aty)) c.if-member.true

pub give_turn-turn-requires-clause-seat : goal.give_turn-turn-requires-clause-seat
give_turn-turn-requires-clause-seat c =
    let s : Stage = c.args.self.now in
    let x : Member = c.in-Some.member.now in
    (at_first c.args.federation.now s c.requires c.args.federate x
    (found s.members.items c.from.result c.args.federate x c.from.ensures c.in-Some.ensures.item.3.0 c.in-Some.ensures.value)
    c.seat.new.self c.seat.ensures.seated).seat

pub give_turn-turn-requires-clause-goes_on : goal.give_turn-turn-requires-clause-goes_on
give_turn-turn-requires-clause-goes_on c =
    let s : Stage = c.args.self.now in
    let x : Member = c.in-Some.member.now in
    (at_first c.args.federation.now s c.requires c.args.federate x
    (found s.members.items c.from.result c.args.federate x c.from.ensures c.in-Some.ensures.item.3.0 c.in-Some.ensures.value)
    c.seat.new.self c.seat.ensures.seated).goes_on c.if-member.false

-- it had not, and had a turn
pub returns-clause-stage : goal.returns-clause-stage
returns-clause-stage c =
    let s : Stage = c.args.self.now in
    let i : ℕ = c.args.federate in
    let x : Member = c.in-Some.member.now in
    let at = found s.members.items c.from.result i x c.from.ensures c.in-Some.ensures.item.3.0 c.in-Some.ensures.value in
    let y : Member = record { node = c.give_turn-turn.new.node; has_ended = c.is_last-member.result } in
    let h : LbtsFloor = c.give_turn-turn.new.standing in
    stage_now c.args.federation.now s c.requires i x at c.seat.new.self c.seat.ensures.seated y h c.give_turn-turn.ensures.came
    c.if-member.false c.give_turn-turn.result c.give_turn-turn.ensures.played (c.is_last-member.ensures ∙ ap is_last_turn c.activity_of-activity.ensures)
    (record { floor = h; members = with_item s.members c.from.result y; reports = s.reports }) refl (ap (λ (k : ℕ). set s.members.items k y) c.from.ensures) refl

pub returns-clause-ended : goal.returns-clause-ended
returns-clause-ended c last =
    let s : Stage = c.args.self.now in
    let i : ℕ = c.args.federate in
    let x : Member = c.in-Some.member.now in
    let at = found s.members.items c.from.result i x c.from.ensures c.in-Some.ensures.item.3.0 c.in-Some.ensures.value in
    let y : Member = record { node = c.give_turn-turn.new.node; has_ended = c.is_last-member.result } in
    ended_now s (record { floor = c.give_turn-turn.new.standing; members = with_item s.members c.from.result y; reports = s.reports }) i x y at
    (ap (λ (k : ℕ). set s.members.items k y) c.from.ensures) (c.is_last-member.ensures ∙ last)

pub returns-clause-stays : goal.returns-clause-stays
returns-clause-stays c =
    let s : Stage = c.args.self.now in
    let i : ℕ = c.args.federate in
    let x : Member = c.in-Some.member.now in
    let at = found s.members.items c.from.result i x c.from.ensures c.in-Some.ensures.item.3.0 c.in-Some.ensures.value in
    let y : Member = record { node = c.give_turn-turn.new.node; has_ended = c.is_last-member.result } in
    stays_now s (record { floor = c.give_turn-turn.new.standing; members = with_item s.members c.from.result y; reports = s.reports }) i x y at
    (ap (λ (k : ℕ). set s.members.items k y) c.from.ensures) c.if-member.false
