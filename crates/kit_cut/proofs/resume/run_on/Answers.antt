use Rattle.std.proofs.Common.{◌≡◌, ◌∙◌, ◌≤◌, ◌<◌, ◌++◌, [], ◌∷◌, ℕ, List, ap, sym, subst, arith, refl, length, map, Some, None, Err, find}
use Rattle.std.specs.Prelude.{Result}
use Rattle.std.specs.List.{All}
use Rattle.std.proofs.lemmas.Result.{err_from_is_err_and}
use Rattle.std.proofs.lemmas.List.Elements.{All-from_recursion}
use Rattle.kit_base.specs.declared.history.Line.{Line}
use Rattle.kit_base.specs.declared.history.Line.TheVariants as line
use Rattle.kit_rules.specs.Fits.{LineFits}
use Rattle.kit_rules.specs.Simulation.{World, least_pair, is_spent, lines_of}
use Rattle.kit_oracle.specs.declared.desk.Desk.{Desk}
use Rattle.kit_oracle.specs.declared.end.OracleEnd.{OracleEnd}
use Rattle.kit_oracle.specs.Ends.{IfSpent}
use Rattle.kit_oracle.specs.Pending.{front_until}
use Rattle.kit_oracle.specs.Desks.{desk_at, desk_after_turn_at, waiting_at}
use Rattle.kit_oracle.proofs.Progress.{turn_within, spent_of}
use Rattle.kit_cut.specs.Resuming.{next_since, resumed, resumed_spender, world_restored}
use Rattle.kit_cut.specs.SinceCut.{desks_of_world_since}
use Rattle.kit_cut.proofs.BelowNext.{valid_below}
use Rattle.kit_cut.proofs.Onward.{world_later, ShowsSince, shows_restored, few_since, next_found_since, next_fits_since, over_since, lines_fit_since, lines_next_since, granted_shows_since, spent_here_since}
use Rattle.kit_cut.proofs.resume.run_on.Goals.{In-Some, In-None}
use Rattle.kit_cut.proofs.resume.run_on.Goals as goal

pub loop-turn-init : goal.loop-turn-init
loop-turn-init c =
    let s = shows_restored c.args.federation.now c.args.cut.now c.args.desks.now.items c.count.ensures.sound c.requires.valid c.requires.desks in
    record { desks = c.requires.desks; made = c.requires.made; lines = c.requires.lines; none = s.none; since = s.since; fit = s.fit }

shows : (c : In-Some) → ShowsSince c.args.federation.now c.args.cut.now c.loop-turn._turn c.loop-turn.desks.items
shows c = let i = c.loop-turn.invariant in record { desks = i.desks; none = i.none; since = i.since; fit = i.fit }

shown_last : (c : In-None) → ShowsSince c.args.federation.now c.args.cut.now c.loop-turn._turn c.loop-turn.desks.items
shown_last c = let i = c.loop-turn.invariant in record { desks = i.desks; none = i.none; since = i.since; fit = i.fit }

pub next_of-requires : goal.next_of-requires
next_of-requires c =
    let i = c.loop-turn.invariant in
    let P : List Desk → Type 0 = λ xs. length xs ≤ 16 in
    subst P (sym c.deref.ensures.value) (omega (
      arith,
      c.count.ensures.value,
      c.count.ensures.high,
      few_since c.args.federation.now c.args.cut.now c.loop-turn._turn c.loop-turn.desks.items (record { desks = i.desks; none = i.none; since = i.since; fit = i.fit }),
    ))

over : (c : In-None) → world_later c.args.federation.now c.args.cut.now c.loop-turn._turn ≡ resumed c.args.federation.now c.args.cut.now
over c =
    let p = c.args.federation.now in
    let cut = c.args.cut.now in
    let within = turn_within c.loop-turn._turn c.count.result c.end-end.result (length p.federates) p.end c.loop-turn-test.true c.count.ensures.value c.end-end.ensures.value in
    over_since p cut c.loop-turn._turn (omega arith)
    (next_found_since p cut c.loop-turn._turn c.loop-turn.desks.items c.end-end.result None (shown_last c) c.end-end.ensures.value (c.in-None.ensures ∙ ap (λ ds. least_pair None (waiting_at c.end-end.result 0 ds)) c.deref.ensures.value))

pub returns-in-None-clause-desks : goal.returns-in-None-clause-desks
returns-in-None-clause-desks c = c.loop-turn.invariant.desks ∙ ap (desks_of_world_since c.args.federation.now c.args.cut.now) (over c)

pub returns-in-None-clause-lines : goal.returns-in-None-clause-lines
returns-in-None-clause-lines c = c.loop-turn.invariant.lines ∙ ap (λ (w : World). lines_of w.blocks) (over c)

pub returns-in-None-clause-none : goal.returns-in-None-clause-none
returns-in-None-clause-none c = let P : World → Type 0 = λ w. find is_spent w.messages ≡ None in subst P (over c) c.loop-turn.invariant.none

pub returns-in-None-clause-fits : goal.returns-in-None-clause-fits
returns-in-None-clause-fits c = lines_fit_since c.args.federation.now c.args.cut.now c.loop-turn._turn c.loop-turn.lines.items c.loop-turn.invariant.fit c.loop-turn.invariant.lines

pub returns-in-None-clause-each : goal.returns-in-None-clause-each
returns-in-None-clause-each c = few_since c.args.federation.now c.args.cut.now c.loop-turn._turn c.loop-turn.desks.items (shown_last c)

some_next : (c : In-Some) → next_since c.args.federation.now c.args.cut.now (world_later c.args.federation.now c.args.cut.now c.loop-turn._turn) ≡ Some c.in-Some.pair
some_next c =
    next_found_since c.args.federation.now c.args.cut.now c.loop-turn._turn c.loop-turn.desks.items c.end-end.result (Some c.in-Some.pair) (shows c) c.end-end.ensures.value
    (c.in-Some.ensures ∙ ap (λ ds. least_pair None (waiting_at c.end-end.result 0 ds)) c.deref.ensures.value)

some_fits : (c : In-Some) → (c.in-Some.pair.1 < length c.args.federation.now.federates) × (c.in-Some.pair.0 ≤ c.args.federation.now.end)
some_fits c = next_fits_since c.args.federation.now c.args.cut.now c.loop-turn._turn c.loop-turn.desks.items c.in-Some.pair (shows c) (some_next c)

some_few : (c : In-Some) → length c.loop-turn.desks.items ≡ length c.args.federation.now.federates
some_few c = few_since c.args.federation.now c.args.cut.now c.loop-turn._turn c.loop-turn.desks.items (shows c)

pub grant_since-requires-clause-federate : goal.grant_since-requires-clause-federate
grant_since-requires-clause-federate c = (some_fits (goal.at.grant_since-requires-clause-federate c).In-Some).0

pub grant_since-requires-clause-desk : goal.grant_since-requires-clause-desk
grant_since-requires-clause-desk c =
    let at = (goal.at.grant_since-requires-clause-desk c).In-Some in
    let fits = some_fits at in
    let few = some_few at in
    let inside : c.in-Some.pair.1 < length c.loop-turn.desks.items = omega (arith, fits.0) in
    inside

pub grant_since-requires-clause-few : goal.grant_since-requires-clause-few
grant_since-requires-clause-few c =
    let few = some_few (goal.at.grant_since-requires-clause-few c).In-Some in
    let most : length c.loop-turn.desks.items ≤ 16 = omega (arith, c.count.ensures.value, c.count.ensures.high) in
    most

pub grant_since-requires-clause-each : goal.grant_since-requires-clause-each
grant_since-requires-clause-each c = c.requires.valid.each ∙ sym (some_few (goal.at.grant_since-requires-clause-each c).In-Some)

pub grant_since-requires-clause-time : goal.grant_since-requires-clause-time
grant_since-requires-clause-time c = (some_fits (goal.at.grant_since-requires-clause-time c).In-Some).1

pub returns-in_err-grant_since-in-Some-clause-spent : goal.returns-in_err-grant_since-in-Some-clause-spent
returns-in_err-grant_since-in-Some-clause-spent c =
    let at = (goal.at.returns-in_err-grant_since-in-Some-clause-spent c).In-Some in
    let fed = c.args.federation.now in
    let cut = c.args.cut.now in
    let pair = c.in-Some.pair in
    let p = err_from_is_err_and c.from_residual.result c.from_residual.ensures.1 in
    let same : c.grant_since.result ≡ c.from_residual.result = c.in_err-grant_since-in-Some.was ∙ sym (p.1 ∙ ap Err p.2) in
    let P : ℕ → Type 0 = λ i. resumed_spender fed cut ≡ Some i in
    let R : Result (Unit {0}) OracleEnd → Type 0 = λ r. IfSpent r P in
    let within = turn_within c.loop-turn._turn c.count.result c.end-end.result (length fed.federates) fed.end c.loop-turn-test.true c.count.ensures.value c.end-end.ensures.value in
    subst R same (spent_of c.grant_since.result pair.1 (16385 < (desk_after_turn_at fed pair c.loop-turn.desks.items).state.next) P c.grant_since.ensures.spent c.grant_since.ensures.past (λ past.
    spent_here_since fed cut c.loop-turn._turn c.loop-turn.desks.items pair (shows at) within (some_next at) past))

pub returns-in_err-grant_since-in-Some-clause-within : goal.returns-in_err-grant_since-in-Some-clause-within
returns-in_err-grant_since-in-Some-clause-within c =
    let at = (goal.at.returns-in_err-grant_since-in-Some-clause-within c).In-Some in
    let p = err_from_is_err_and c.from_residual.result c.from_residual.ensures.1 in
    let same : c.grant_since.result ≡ c.from_residual.result = c.in_err-grant_since-in-Some.was ∙ sym (p.1 ∙ ap Err p.2) in
    let P : ℕ → Type 0 = λ i. i < length c.args.federation.now.federates in
    let R : Result (Unit {0}) OracleEnd → Type 0 = λ r. IfSpent r P in
    subst R same (spent_of c.grant_since.result c.in-Some.pair.1 (16385 < (desk_after_turn_at c.args.federation.now c.in-Some.pair c.loop-turn.desks.items).state.next) P c.grant_since.ensures.spent c.grant_since.ensures.past (λ past. (some_fits at).0))

pub loop-turn-preserved : goal.loop-turn-preserved
loop-turn-preserved c =
    let at = (goal.at.loop-turn-preserved c).In-Some in
    let p = c.args.federation.now in
    let cut = c.args.cut.now in
    let n = c.loop-turn._turn in
    let pair = c.in-Some.pair in
    let due = front_until pair.0 (desk_at c.loop-turn.desks.items pair.1).queue in
    let s = granted_shows_since p cut n c.loop-turn.desks.items c.grant_since.new.desks.items pair c.count.ensures.sound c.requires.valid (shows at) (some_next at) c.in_ok-grant_since-in-Some.ensures.desks c.in_ok-grant_since-in-Some.ensures.room in
    record {
      desks = s.desks;
      made = c.in_ok-grant_since-in-Some.ensures.made;
      lines = c.in_ok-grant_since-in-Some.ensures.lines
          ∙ ap (λ (ls : List Line). (ls ++ map (line.Deliver pair.0 pair.1) due) ++ line.Grant pair.0 pair.1 ∷ []) c.loop-turn.invariant.lines
          ∙ lines_next_since p cut n c.loop-turn.desks.items pair (shows at) (some_next at);
      none = s.none;
      since = s.since;
      fit = s.fit;
    }

pub returns-clause-fits : goal.returns-clause-fits
returns-clause-fits c = lines_fit_since c.args.federation.now c.args.cut.now c.loop-turn._turn c.loop-turn.lines.items c.loop-turn.invariant.fit c.loop-turn.invariant.lines

pub returns-clause-each : goal.returns-clause-each
returns-clause-each c =
    let i = c.loop-turn.invariant in
    few_since c.args.federation.now c.args.cut.now c.loop-turn._turn c.loop-turn.desks.items (record { desks = i.desks; none = i.none; since = i.since; fit = i.fit })

pub grant_since-requires-clause-below : goal.grant_since-requires-clause-below
grant_since-requires-clause-below c = valid_below c.args.federation.now c.args.cut.now c.requires.valid
