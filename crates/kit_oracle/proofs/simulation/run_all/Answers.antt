use Rattle.std.proofs.Common.{◌≡◌, ◌∙◌, ◌≤◌, ◌<◌, ◌+◌, ◌-◌, ◌*◌, ◌++◌, ℕ, List, map, ap, sym, subst, arith, length, Some, None, Err, find}
use Rattle.std.specs.Prelude.{Result}
use Rattle.std.proofs.lemmas.Result.{err_from_is_err_and}
use Rattle.kit_base.specs.declared.message.Message.{Message}
use Rattle.kit_base.specs.declared.history.Line.{Line}
use Rattle.kit_base.specs.declared.history.Line.TheVariants as line
use Rattle.kit_laws.proofs.Sanity.{started_sane}
use Rattle.kit_rules.specs.Simulation.{World, world_at_start, next_grant, least_pair, after_grants, simulation, spender, is_spent, lines_of}
use Rattle.kit_oracle.specs.declared.desk.Desk.{Desk}
use Rattle.kit_oracle.specs.declared.end.OracleEnd.{OracleEnd}
use Rattle.kit_oracle.specs.Ends.{IfSpent}
use Rattle.kit_oracle.specs.Pending.{front_until}
use Rattle.kit_oracle.specs.Desks.{desks_of, desk_at, desk_after_turn_at, waiting_at}
use Rattle.kit_oracle.specs.Observing.{IsGrant}
use Rattle.kit_oracle.proofs.Observed.{still_shows}
use Rattle.kit_oracle.proofs.Progress.{Shows, few_desks, next_found, next_fits, over_here, turn_within, lines_next, told_of, granted_shows, spent_here, spent_of}
use Rattle.kit_oracle.proofs.simulation.run_all.Goals.{In-Some, In-None}
use Rattle.kit_oracle.proofs.simulation.run_all.Given.{Over}
use Rattle.kit_oracle.proofs.simulation.run_all.Goals as goal

pub loop-turn-init : goal.loop-turn-init
loop-turn-init g c = record { desks = c.requires.desks; made = c.requires.made; shows = c.requires.shows; none = c.requires.none; sane = started_sane c.args.federation.now }

pub next_of-requires : goal.next_of-requires
next_of-requires g c =
    let i = c.loop-turn.invariant in
    let P : List Desk → Type 0 = λ xs. length xs ≤ 16 in
    subst P (sym c.deref.ensures.value) (omega (
      arith,
      c.count.ensures.value,
      c.count.ensures.high,
      few_desks c.args.federation.now c.loop-turn._turn c.loop-turn.desks.items (record { desks = i.desks; none = i.none; sane = i.sane }),
    ))

nobody_next : (g : Over) (c : In-None g) → next_grant c.args.federation.now (after_grants c.args.federation.now c.loop-turn._turn (world_at_start c.args.federation.now)) ≡ None
nobody_next g c =
    let i = c.loop-turn.invariant in
    next_found c.args.federation.now c.loop-turn._turn c.loop-turn.desks.items c.end-end.result None
    (record { desks = i.desks; none = i.none; sane = i.sane }) c.end-end.ensures.value (c.in-None.ensures ∙ ap (λ ds. least_pair None (waiting_at c.end-end.result 0 ds)) c.deref.ensures.value)

none_next : (g : Over) (c : In-None g) → after_grants c.args.federation.now c.loop-turn._turn (world_at_start c.args.federation.now) ≡ simulation c.args.federation.now
none_next g c =
    let within = turn_within c.loop-turn._turn c.count.result c.end-end.result (length c.args.federation.now.federates) c.args.federation.now.end c.loop-turn-test.true c.count.ensures.value c.end-end.ensures.value in
    over_here c.args.federation.now c.loop-turn._turn (omega arith) (nobody_next g c)

shows : (g : Over) (c : In-Some g) → Shows c.args.federation.now c.loop-turn._turn c.loop-turn.desks.items
shows g c = let i = c.loop-turn.invariant in record { desks = i.desks; none = i.none; sane = i.sane }

some_next : (g : Over) (c : In-Some g) → next_grant c.args.federation.now (after_grants c.args.federation.now c.loop-turn._turn (world_at_start c.args.federation.now)) ≡ Some c.in-Some.pair
some_next g c =
    next_found c.args.federation.now c.loop-turn._turn c.loop-turn.desks.items c.end-end.result (Some c.in-Some.pair) (shows g c) c.end-end.ensures.value
    (c.in-Some.ensures ∙ ap (λ ds. least_pair None (waiting_at c.end-end.result 0 ds)) c.deref.ensures.value)

some_fits : (g : Over) (c : In-Some g) → (c.in-Some.pair.1 < length c.args.federation.now.federates) × (c.in-Some.pair.0 ≤ c.args.federation.now.end)
some_fits g c = next_fits c.args.federation.now c.loop-turn._turn c.loop-turn.desks.items c.in-Some.pair (shows g c) (some_next g c)

some_few : (g : Over) (c : In-Some g) → length c.loop-turn.desks.items ≡ length c.args.federation.now.federates
some_few g c = few_desks c.args.federation.now c.loop-turn._turn c.loop-turn.desks.items (shows g c)

pub returns-in-None-clause-desks : goal.returns-in-None-clause-desks
returns-in-None-clause-desks g c = c.loop-turn.invariant.desks ∙ ap (desks_of c.args.federation.now) (none_next g (goal.at.returns-in-None-clause-desks g c).In-None)

pub returns-in-None-clause-shows : goal.returns-in-None-clause-shows
returns-in-None-clause-shows g c =
    let at = (goal.at.returns-in-None-clause-shows g c).In-None in
    let p = c.args.federation.now in
    let n = c.loop-turn._turn in
    let most = length p.federates * p.end in
    let within = turn_within n c.count.result c.end-end.result (length p.federates) p.end c.loop-turn-test.true c.count.ensures.value c.end-end.ensures.value in
    let L : World → Type 0 = λ w. g.O.Observer.shows p n (lines_of w.blocks) c.loop-turn.observer in
    still_shows g.O.Observer.shows g.met.O.Observer.over p n (most - n) most (lines_of (simulation p).blocks) c.loop-turn.observer (omega arith) (nobody_next g at) (subst L (none_next g at) c.loop-turn.invariant.shows)

pub returns-in-None-clause-none : goal.returns-in-None-clause-none
returns-in-None-clause-none g c =
    let P : World → Type 0 = λ w. find is_spent w.messages ≡ None in
    subst P (none_next g (goal.at.returns-in-None-clause-none g c).In-None) c.loop-turn.invariant.none

pub grant-requires-clause-federate : goal.grant-requires-clause-federate
grant-requires-clause-federate g c = (some_fits g (goal.at.grant-requires-clause-federate g c).In-Some).0

pub grant-requires-clause-desk : goal.grant-requires-clause-desk
grant-requires-clause-desk g c =
    let at = (goal.at.grant-requires-clause-desk g c).In-Some in
    let fits = some_fits g at in
    let few = some_few g at in
    let inside : c.in-Some.pair.1 < length c.loop-turn.desks.items = omega (arith, fits.0) in
    inside

pub grant-requires-clause-few : goal.grant-requires-clause-few
grant-requires-clause-few g c =
    let few = some_few g (goal.at.grant-requires-clause-few g c).In-Some in
    let most : length c.loop-turn.desks.items ≤ 16 = omega (arith, c.count.ensures.value, c.count.ensures.high) in
    most

pub grant-requires-clause-time : goal.grant-requires-clause-time
grant-requires-clause-time g c = (some_fits g (goal.at.grant-requires-clause-time g c).In-Some).1

pub returns-in_err-grant-in-Some-clause-spent : goal.returns-in_err-grant-in-Some-clause-spent
returns-in_err-grant-in-Some-clause-spent g c =
    let at = (goal.at.returns-in_err-grant-in-Some-clause-spent g c).In-Some in
    let fed = c.args.federation.now in
    let pair = c.in-Some.pair in
    let p = err_from_is_err_and c.from_residual.result c.from_residual.ensures.1 in
    let same : c.grant.result ≡ c.from_residual.result = c.in_err-grant-in-Some.was ∙ sym (p.1 ∙ ap Err p.2) in
    let P : ℕ → Type 0 = λ i. spender fed ≡ Some i in
    let R : Result (Unit {0}) OracleEnd → Type 0 = λ r. IfSpent r P in
    let within = turn_within c.loop-turn._turn c.count.result c.end-end.result (length fed.federates) fed.end c.loop-turn-test.true c.count.ensures.value c.end-end.ensures.value in
    subst R same (spent_of c.grant.result pair.1 (16385 < (desk_after_turn_at fed pair c.loop-turn.desks.items).state.next) P c.grant.ensures.spent c.grant.ensures.past (λ past.
    spent_here fed c.loop-turn._turn c.loop-turn.desks.items pair c.count.ensures.sound (shows g at) within (some_next g at) past))

-- the lines that the observer shows when it is told of the grant
abbrev lines_before : (g : Over) (c : In-Some g) → List Line
lines_before g c =
    lines_of (after_grants c.args.federation.now c.loop-turn._turn (world_at_start c.args.federation.now)).blocks
    ++ map (line.Deliver c.in-Some.pair.0 c.in-Some.pair.1) (front_until c.in-Some.pair.0 (desk_at c.loop-turn.desks.items c.in-Some.pair.1).queue)

pub grant-requires-in-Some : goal.grant-requires-in-Some
grant-requires-in-Some g c =
    let at = (goal.at.grant-requires-in-Some g c).In-Some in
    let p = c.args.federation.now in
    let n = c.loop-turn._turn in
    let P : List Message → Type 0 = λ ms. IsGrant p n c.in-Some.pair ms in
    let told = told_of p n c.loop-turn.desks.items c.grant.new.made.items c.in-Some.pair c.count.ensures.sound (shows g at) (some_next g at) c.in_ok-grant-in-Some.ensures.made c.in_ok-grant-in-Some.ensures.room in
    (n, lines_before g at, subst P (sym c.deref-in-Some.ensures.value) told, c.in_ok-grant-in-Some.ensures.lines p n (lines_of (after_grants p n (world_at_start p)).blocks) c.loop-turn.invariant.shows)

pub loop-turn-preserved : goal.loop-turn-preserved
loop-turn-preserved g c =
    let at = (goal.at.loop-turn-preserved g c).In-Some in
    let p = c.args.federation.now in
    let n = c.loop-turn._turn in
    let s = granted_shows p n c.loop-turn.desks.items c.grant.new.desks.items c.in-Some.pair c.count.ensures.sound (shows g at) (some_next g at) c.in_ok-grant-in-Some.ensures.desks c.in_ok-grant-in-Some.ensures.room in
    let P : List Message → Type 0 = λ ms. IsGrant p n c.in-Some.pair ms in
    let L : List Line → Type 0 = λ ls. g.O.Observer.shows p (n + 1) ls c.grant-in-Some.new.self in
    let told = told_of p n c.loop-turn.desks.items c.grant.new.made.items c.in-Some.pair c.count.ensures.sound (shows g at) (some_next g at) c.in_ok-grant-in-Some.ensures.made c.in_ok-grant-in-Some.ensures.room in
    let lines = c.in_ok-grant-in-Some-2.ensures n (lines_before g at) (subst P (sym c.deref-in-Some.ensures.value) told) (c.in_ok-grant-in-Some.ensures.lines p n (lines_of (after_grants p n (world_at_start p)).blocks) c.loop-turn.invariant.shows) in
    record { desks = s.desks; made = c.clear.ensures.items; shows = subst L (lines_next p n c.loop-turn.desks.items c.in-Some.pair (shows g at) (some_next g at)) lines; none = s.none; sane = s.sane }
