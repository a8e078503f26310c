use Rattle.std.proofs.Common.{◌≡◌, ◌∙◌, ◌≤◌, ◌<◌, ◌++◌, [], ◌∷◌, ℕ, List, ap, sym, subst, arith, refl, length, Some, None, Err, find}
use Rattle.std.specs.Prelude.{Result}
use Rattle.std.proofs.lemmas.Result.{err_from_is_err_and}
use Rattle.kit_base.specs.declared.history.Line.{Line}
use Rattle.kit_base.specs.declared.history.Line.TheVariants as line
use Rattle.kit_laws.proofs.Sanity.{started_sane}
use Rattle.kit_rules.specs.Simulation.{World, world_at_start, next_grant, least_pair, after_grants, is_spent, lines_of}
use Rattle.kit_oracle.specs.declared.desk.Desk.{Desk}
use Rattle.kit_oracle.specs.declared.end.OracleEnd.{OracleEnd}
use Rattle.kit_oracle.specs.Ends.{IfSpent}
use Rattle.kit_oracle.specs.Desks.{desks_of, desk_after_turn_at, waiting_at}
use Rattle.kit_oracle.proofs.Progress.{Shows, few_desks, next_found, next_fits, turn_within, lines_next, granted_shows, spent_of}
use Rattle.kit_cut.specs.Cuts.{due_by, world_by, spender_by}
use Rattle.kit_cut.proofs.ByTime.{due_more, by_here, spent_by_here}
use Rattle.kit_cut.proofs.Resuming.{due_is_next}
use Rattle.kit_cut.proofs.upto.run_upto.Goals.{In-Some, In-None, After-deref}
use Rattle.kit_cut.proofs.upto.run_upto.Goals as goal

pub loop-turn-init : goal.loop-turn-init
loop-turn-init c = record { desks = c.requires.desks; made = c.requires.made; lines = c.requires.lines; due = refl; none = c.requires.none; sane = started_sane c.args.federation.now }

pub next_by-requires : goal.next_by-requires
next_by-requires c =
    let i = c.loop-turn.invariant in
    let P : List Desk → Type 0 = λ xs. length xs ≤ 16 in
    subst P (sym c.deref.ensures.value) (omega (
      arith,
      c.count.ensures.value,
      c.count.ensures.high,
      few_desks c.args.federation.now c.loop-turn._turn c.loop-turn.desks.items (record { desks = i.desks; none = i.none; sane = i.sane }),
    ))

none_due : (c : In-None) → due_by c.args.time (next_grant c.args.federation.now (after_grants c.args.federation.now c.loop-turn._turn (world_at_start c.args.federation.now))) ≡ None
none_due c =
    let i = c.loop-turn.invariant in
    let found = next_found c.args.federation.now c.loop-turn._turn c.loop-turn.desks.items c.end-end.result (least_pair None (waiting_at c.end-end.result 0 c.loop-turn.desks.items)) (record { desks = i.desks; none = i.none; sane = i.sane }) c.end-end.ensures.value refl in
    ap (due_by c.args.time) found ∙ ap (λ ds. due_by c.args.time (least_pair None (waiting_at c.end-end.result 0 ds))) (sym c.deref.ensures.value) ∙ sym (sym c.in-None.is ∙ c.next_by.ensures)

there : (c : In-None) → after_grants c.args.federation.now c.loop-turn._turn (world_at_start c.args.federation.now) ≡ world_by c.args.federation.now c.args.time
there c =
    let within = turn_within c.loop-turn._turn c.count.result c.end-end.result (length c.args.federation.now.federates) c.args.federation.now.end c.loop-turn-test.true c.count.ensures.value c.end-end.ensures.value in
    by_here c.args.federation.now c.args.time c.loop-turn._turn (omega arith) c.loop-turn.invariant.due (none_due c)

pub returns-in-None-clause-desks : goal.returns-in-None-clause-desks
returns-in-None-clause-desks c = c.loop-turn.invariant.desks ∙ ap (desks_of c.args.federation.now) (there c)

pub returns-in-None-clause-lines : goal.returns-in-None-clause-lines
returns-in-None-clause-lines c = c.loop-turn.invariant.lines ∙ ap (λ (w : World). lines_of w.blocks) (there c)

pub returns-in-None-clause-none : goal.returns-in-None-clause-none
returns-in-None-clause-none c = let P : World → Type 0 = λ w. find is_spent w.messages ≡ None in subst P (there c) c.loop-turn.invariant.none

shows : (c : In-Some) → Shows c.args.federation.now c.loop-turn._turn c.loop-turn.desks.items
shows c = let i = c.loop-turn.invariant in record { desks = i.desks; none = i.none; sane = i.sane }

some_due : (c : In-Some) → due_by c.args.time (next_grant c.args.federation.now (after_grants c.args.federation.now c.loop-turn._turn (world_at_start c.args.federation.now))) ≡ Some c.in-Some.pair
some_due c =
    let found = next_found c.args.federation.now c.loop-turn._turn c.loop-turn.desks.items c.end-end.result (least_pair None (waiting_at c.end-end.result 0 c.loop-turn.desks.items)) (shows c) c.end-end.ensures.value refl in
    ap (due_by c.args.time) found ∙ ap (λ ds. due_by c.args.time (least_pair None (waiting_at c.end-end.result 0 ds))) (sym c.deref.ensures.value) ∙ sym (sym c.in-Some.is ∙ c.next_by.ensures)

some_next : (c : In-Some) → next_grant c.args.federation.now (after_grants c.args.federation.now c.loop-turn._turn (world_at_start c.args.federation.now)) ≡ Some c.in-Some.pair
some_next c = (due_is_next c.args.time (next_grant c.args.federation.now (after_grants c.args.federation.now c.loop-turn._turn (world_at_start c.args.federation.now))) c.in-Some.pair (some_due c)).0

some_fits : (c : In-Some) → (c.in-Some.pair.1 < length c.args.federation.now.federates) × (c.in-Some.pair.0 ≤ c.args.federation.now.end)
some_fits c = next_fits c.args.federation.now c.loop-turn._turn c.loop-turn.desks.items c.in-Some.pair (shows c) (some_next c)

some_few : (c : In-Some) → length c.loop-turn.desks.items ≡ length c.args.federation.now.federates
some_few c = few_desks c.args.federation.now c.loop-turn._turn c.loop-turn.desks.items (shows c)

pub grant-requires-clause-federate : goal.grant-requires-clause-federate
grant-requires-clause-federate c = (some_fits (goal.at.grant-requires-clause-federate c).In-Some).0

pub grant-requires-clause-desk : goal.grant-requires-clause-desk
grant-requires-clause-desk c =
    let at = (goal.at.grant-requires-clause-desk c).In-Some in
    let fits = some_fits at in
    let few = some_few at in
    let inside : c.in-Some.pair.1 < length c.loop-turn.desks.items = omega (arith, fits.0) in
    inside

pub grant-requires-clause-few : goal.grant-requires-clause-few
grant-requires-clause-few c =
    let few = some_few (goal.at.grant-requires-clause-few c).In-Some in
    let most : length c.loop-turn.desks.items ≤ 16 = omega (arith, c.count.ensures.value, c.count.ensures.high) in
    most

pub grant-requires-clause-time : goal.grant-requires-clause-time
grant-requires-clause-time c = (some_fits (goal.at.grant-requires-clause-time c).In-Some).1

pub returns-in_err-grant-in-Some-clause-spent : goal.returns-in_err-grant-in-Some-clause-spent
returns-in_err-grant-in-Some-clause-spent c =
    let at = (goal.at.returns-in_err-grant-in-Some-clause-spent c).In-Some in
    let fed = c.args.federation.now in
    let pair = c.in-Some.pair in
    let p = err_from_is_err_and c.from_residual.result c.from_residual.ensures.1 in
    let same : c.grant.result ≡ c.from_residual.result = c.in_err-grant-in-Some.was ∙ sym (p.1 ∙ ap Err p.2) in
    let P : ℕ → Type 0 = λ i. spender_by fed c.args.time ≡ Some i in
    let R : Result (Unit {0}) OracleEnd → Type 0 = λ r. IfSpent r P in
    let within = turn_within c.loop-turn._turn c.count.result c.end-end.result (length fed.federates) fed.end c.loop-turn-test.true c.count.ensures.value c.end-end.ensures.value in
    subst R same (spent_of c.grant.result pair.1 (16385 < (desk_after_turn_at fed pair c.loop-turn.desks.items).state.next) P c.grant.ensures.spent c.grant.ensures.past (λ past.
    spent_by_here fed c.args.time c.loop-turn._turn c.loop-turn.desks.items pair c.count.ensures.sound (shows at) within c.loop-turn.invariant.due (some_due at) past))

pub returns-in_err-grant-in-Some-clause-within : goal.returns-in_err-grant-in-Some-clause-within
returns-in_err-grant-in-Some-clause-within c =
    let at = (goal.at.returns-in_err-grant-in-Some-clause-within c).In-Some in
    let p = err_from_is_err_and c.from_residual.result c.from_residual.ensures.1 in
    let same : c.grant.result ≡ c.from_residual.result = c.in_err-grant-in-Some.was ∙ sym (p.1 ∙ ap Err p.2) in
    let P : ℕ → Type 0 = λ i. i < length c.args.federation.now.federates in
    let R : Result (Unit {0}) OracleEnd → Type 0 = λ r. IfSpent r P in
    subst R same (spent_of c.grant.result c.in-Some.pair.1 (16385 < (desk_after_turn_at c.args.federation.now c.in-Some.pair c.loop-turn.desks.items).state.next) P c.grant.ensures.spent c.grant.ensures.past (λ past. (some_fits at).0))

pub loop-turn-preserved : goal.loop-turn-preserved
loop-turn-preserved c =
    let at = (goal.at.loop-turn-preserved c).In-Some in
    let p = c.args.federation.now in
    let n = c.loop-turn._turn in
    let pair = c.in-Some.pair in
    let s = granted_shows p n c.loop-turn.desks.items c.grant.new.desks.items pair c.count.ensures.sound (shows at) (some_next at) c.in_ok-grant-in-Some.ensures.desks c.in_ok-grant-in-Some.ensures.room in
    record {
      desks = s.desks;
      made = c.clear.ensures.items;
      lines = c.in_ok-push-in-Some.ensures.items
          ∙ ap (λ (ls : List Line). ls ++ line.Grant pair.0 pair.1 ∷ []) (c.in_ok-grant-in-Some.ensures.lines p n (lines_of (after_grants p n (world_at_start p)).blocks) c.loop-turn.invariant.lines)
          ∙ lines_next p n c.loop-turn.desks.items pair (shows at) (some_next at);
      due = due_more p c.args.time n pair c.loop-turn.invariant.due (some_due at);
      none = s.none;
      sane = s.sane;
    }
