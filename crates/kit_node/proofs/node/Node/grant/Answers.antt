use Rattle.std.proofs.Common.{rules, ◌≡◌, ◌≤◌, ℕ, length, refl, sym, ap, ◌∙◌, subst, arith, true, false}
use Rattle.std.specs.Prelude.{Err}
use Rattle.std.proofs.lemmas.Bool.{false≢true, true≢false}
use Rattle.kit_ground.specs.declared.place.Deed.TheVariants.{Published}
use Rattle.kit_ground.specs.declared.place.Place.{Place}
use Rattle.kit_ground.specs.Steps.{place_after}
use Rattle.kit_lbts.specs.declared.view.LbtsView.{LbtsView}
use Rattle.kit_lbts.specs.Progress.{view_after, view_after_grant}
use Rattle.kit_ground.specs.Layout.{clock_of}
use Rattle.kit_lbts.specs.Seats.{most_sends}
use Rattle.kit_lbts.specs.Views.{due_of}
use Rattle.kit_node.specs.declared.ends.NodeEnd.TheVariants.{SendsSpent}
use Rattle.kit_node.specs.Granting.{HasRunBlock}
use Rattle.kit_node.specs.Mirrors.{Mirrors, shows}
use Rattle.kit_node.proofs.GrantMirrors.{due_there, request_duein, granted_place, grants_nothing, may_be_granted, me_within, mirrors_after_grant, numbers_suffice, spends}
use Rattle.kit_node.proofs.node.Node.grant.Goals as goal

abbrev P : Type 0
P = Place LbtsView

pub returns-in_default-clause-granted : goal.returns-in_default-clause-granted
returns-in_default-clause-granted g c = record {
  one = λ e. absurd (false≢true e);
  none = λ _. (refl, grants_nothing (shows g.Q.Order.entries g.R.Reduction.scheme g.R.Reduction.state) c.args.federation.now c.args.self.now (g.G.Ground.place c.args.ground.now) c.requires.world c.requires.federation c.requires.mirrors c.in_default.ensures.none);
}

pub run_block-requires-clause-me : goal.run_block-requires-clause-me
run_block-requires-clause-me g c = me_within (shows g.Q.Order.entries g.R.Reduction.scheme g.R.Reduction.state) c.args.federation.now c.args.self.now (g.G.Ground.place c.args.ground.now) c.requires.world c.requires.federation c.requires.mirrors

pub run_block-requires-clause-time : goal.run_block-requires-clause-time
run_block-requires-clause-time g c =
    request_duein (shows g.Q.Order.entries g.R.Reduction.scheme g.R.Reduction.state) c.args.federation.now c.args.self.now (g.G.Ground.place c.args.ground.now) c.requires.world c.requires.federation c.requires.mirrors c.in-Some.due c.in-Some.ensures.some c.requires.early

pub returns-in_err-run_block-clause-spent : goal.returns-in_err-run_block-clause-spent
returns-in_err-run_block-clause-spent g c is =
    let end : c.run_block.result ≡ Err SendsSpent = search rules in
    let sh = shows g.Q.Order.entries g.R.Reduction.scheme g.R.Reduction.state in
    let p : P = g.G.Ground.place c.args.ground.now in
    spends sh c.args.federation.now c.args.self.now p c.requires.world c.requires.federation c.requires.mirrors c.in-Some.due
    (due_there sh c.args.federation.now c.args.self.now p c.requires.world c.requires.federation c.requires.mirrors c.in-Some.due c.in-Some.ensures.some)
    (may_be_granted sh c.args.federation.now c.args.self.now p c.requires.world c.requires.federation c.requires.mirrors c.in-Some.due c.in-Some.ensures.some c.requires.settled c.requires.early)
    (c.run_block.ensures.spent end)

pub show_time-requires-clause-may : goal.show_time-requires-clause-may
show_time-requires-clause-may g c =
    may_be_granted (shows g.Q.Order.entries g.R.Reduction.scheme g.R.Reduction.state) c.args.federation.now c.args.self.now (g.G.Ground.place c.args.ground.now) c.requires.world c.requires.federation c.requires.mirrors
    c.in-Some.due c.in-Some.ensures.some c.requires.settled c.requires.early

pub show_time-requires-clause-time : goal.show_time-requires-clause-time
show_time-requires-clause-time g c =
    due_there (shows g.Q.Order.entries g.R.Reduction.scheme g.R.Reduction.state) c.args.federation.now c.args.self.now (g.G.Ground.place c.args.ground.now) c.requires.world c.requires.federation c.requires.mirrors c.in-Some.due c.in-Some.ensures.some

pub show_time-requires-clause-numbers : goal.show_time-requires-clause-numbers
show_time-requires-clause-numbers g c =
    let sh = shows g.Q.Order.entries g.R.Reduction.scheme g.R.Reduction.state in
    let p : P = g.G.Ground.place c.args.ground.now in
    let n = c.args.self.now in
    let k = c.run_block.new.self in
    let due = due_there sh c.args.federation.now n p c.requires.world c.requires.federation c.requires.mirrors c.in-Some.due c.in-Some.ensures.some in
    let few : length k.course.state.sends ≤ most_sends = omega (arith, c.keeps_its_count.ensures.counted, c.keeps_its_count.ensures.room) in
    subst (λ (t : ℕ). length (view_after_grant p.own.number t p.client).state.sends ≤ most_sends) (sym due)
    (numbers_suffice sh c.args.federation.now n p c.requires.world c.requires.federation c.requires.mirrors k
    (subst (λ (t : ℕ). HasRunBlock g.Q.Order.entries c.args.federation.now t n k) due c.in_ok-run_block.ensures.run) few)

pub stand_at-requires : goal.stand_at-requires
stand_at-requires g c =
    let within = request_duein (shows g.Q.Order.entries g.R.Reduction.scheme g.R.Reduction.state) c.args.federation.now c.args.self.now (g.G.Ground.place c.args.ground.now) c.requires.world c.requires.federation c.requires.mirrors
    c.in-Some.due c.in-Some.ensures.some c.requires.early in
    omega (arith, within, c.end-end.ensures.value, c.end-end.ensures.high)

-- the place is that of the grant
placed : (p q : P) (me d : ℕ) → me ≡ p.own.number → d ≡ due_of p.client → q ≡ place_after view_after (Published (clock_of me) d) p → q ≡ granted_place p
placed p q me d me_is d_is is = is ∙ (λ i. place_after view_after (Published (clock_of (me_is i)) (d_is i)) p)

pub returns-clause-mirrors : goal.returns-clause-mirrors
returns-clause-mirrors g c =
    let sh = shows g.Q.Order.entries g.R.Reduction.scheme g.R.Reduction.state in
    let f = c.args.federation.now in
    let n = c.args.self.now in
    let p : P = g.G.Ground.place c.args.ground.now in
    let q : P = g.G.Ground.place c.show_time.new.ground in
    let k = c.run_block.new.self in
    let r = c.requires in
    let due = due_there sh f n p r.world r.federation r.mirrors c.in-Some.due c.in-Some.ensures.some in
    let may = may_be_granted sh f n p r.world r.federation r.mirrors c.in-Some.due c.in-Some.ensures.some r.settled r.early in
    let run = subst (λ (t : ℕ). HasRunBlock g.Q.Order.entries f t n k) due c.in_ok-run_block.ensures.run in
    let me : k.me ≡ p.own.number = ap (λ x. x.me) c.in_ok-run_block.ensures.run.others ∙ r.mirrors.me in
    subst (Mirrors sh _) (sym (placed p q n.me c.in-Some.due r.mirrors.me due c.show_time.ensures.place))
    (mirrors_after_grant sh f n p r.world r.federation r.mirrors may k _ run (record {
      me = refl;
      course = c.stand_at.ensures ∙ (search rules);
      journal = c.enter.ensures ∙ (search rules);
      due = c.clear.ensures.items;
      inbox = refl;
      outbox = refl;
      rounds = refl;
    }))

pub returns-clause-granted : goal.returns-clause-granted
returns-clause-granted g c =
    let sh = shows g.Q.Order.entries g.R.Reduction.scheme g.R.Reduction.state in
    let f = c.args.federation.now in
    let n = c.args.self.now in
    let p : P = g.G.Ground.place c.args.ground.now in
    let q : P = g.G.Ground.place c.show_time.new.ground in
    let r = c.requires in
    let due = due_there sh f n p r.world r.federation r.mirrors c.in-Some.due c.in-Some.ensures.some in
    let may = may_be_granted sh f n p r.world r.federation r.mirrors c.in-Some.due c.in-Some.ensures.some r.settled r.early in
    record {
      one = λ _. (may, placed p q n.me c.in-Some.due r.mirrors.me due c.show_time.ensures.place);
      none = λ e. absurd (true≢false e);
    }

pub enter-requires-clause-time : goal.enter-requires-clause-time
enter-requires-clause-time g c =
    let by_the_end : c.in-Some.due ≤ c.args.federation.now.end =
    request_duein (shows g.Q.Order.entries g.R.Reduction.scheme g.R.Reduction.state) c.args.federation.now c.args.self.now (g.G.Ground.place c.args.ground.now) c.requires.world c.requires.federation c.requires.mirrors c.in-Some.due c.in-Some.ensures.some c.requires.early in
    omega (arith, by_the_end, c.end-end.ensures.value, c.end-end.ensures.high)
