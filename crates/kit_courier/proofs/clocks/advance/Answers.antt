use Rattle.std.proofs.Common.{◌≡◌, ◌+◌, ◌<◌, ◌≤◌, ℕ, List, refl, sym, ap, ◌∙◌, subst, arith}
use Rattle.std.specs.Prelude.{slice_index}
use Rattle.kit_ground.specs.declared.place.Place.{Place}
use Rattle.kit_courier.specs.declared.view.CourierView.{CourierView}
use Rattle.kit_courier.specs.Calls.{AdvanceLeaves}
use Rattle.kit_courier.proofs.Looking.{learns, shows}
use Rattle.kit_courier.proofs.Looks.{HasSearched, found_lower, found_no_lower, own_skipped, paced_whole, shown_here, shows_leave}
use Rattle.kit_courier.proofs.clocks.advance.Goals as goal
use Rattle.kit_courier.proofs.clocks.advance.Goals.{then-federate-me+then-found-least, then-federate-me+else-found-least, else-federate-me}

abbrev P : Type 0
P = Place CourierView

-- the same at the place and the number that the loop goes on with
goes_on : (p : P) (n low low' : ℕ) (q r r' : P) → HasSearched p n low q → r ≡ q → r' ≡ r → low' ≡ low → HasSearched p n low' r'
goes_on p n low low' q r r' h at same less = subst (λ (x : ℕ × P). HasSearched p n x.0 x.1) (λ i. (sym less i, sym (same ∙ at) i)) h

pub look-found-requires-clause-rule : goal.look-found-requires-clause-rule
look-found-requires-clause-rule g c =
    let h = c.loop-federate.invariant.1 in
    let all = c.federates-federate-end.ensures in
    let many = h.seat.federates in
    learns _ _ (let l = c.loop-federate-test.true in omega arith)

pub loop-federate-preserved : goal.loop-federate-preserved
loop-federate-preserved g c =
    let place = g.G.Ground.place in
    let came = g.G.Ground.came in
    let on = g.met.G.Ground.came_on in
    let p : P = place c.args.seat.now in
    let q : P = place c.loop-federate.seat in
    let n : ℕ = c.loop-federate.federate in
    let low : ℕ = c.loop-federate.least in
    let h = c.loop-federate.invariant.1 in
    let all = c.federates-federate-end.ensures in
    let me = c.me-me.ensures in
    let inside : n < p.own.federates = let l = c.loop-federate-test.true in omega arith in
    elim c.if-federate-me.branch [
      | then-federate-me+then-found-least w ↦ (
        subst (came c.args.seat.now) (sym w.seat-is) (on _ _ _ c.loop-federate.invariant.0 w.look-found.ensures.came),
        goes_on p (n + 1) _ _ _ _ _ (found_lower p n low _ q h inside (λ e. w.if-federate-me.true (e ∙ sym me)) w.look-found.ensures.told (omega arith)) w.look-found.ensures.place (ap place w.seat-is) w.least-is,
      )
      | then-federate-me+else-found-least w ↦ (
        subst (came c.args.seat.now) (sym w.seat-is) (on _ _ _ c.loop-federate.invariant.0 w.look-found.ensures.came),
        goes_on p (n + 1) _ _ _ _ _ (found_no_lower p n low _ q h inside (λ e. w.if-federate-me.true (e ∙ sym me)) w.look-found.ensures.told (omega arith)) w.look-found.ensures.place (ap place w.seat-is) w.least-is,
      )
      | else-federate-me w ↦ (
        subst (came c.args.seat.now) (sym w.seat-is) c.loop-federate.invariant.0,
        goes_on p (n + 1) _ _ _ _ _ (own_skipped p n low q h (omega arith)) (ap place w.seat-is) refl w.least-is,
      )
    ]

pub publish-requires-clause-rule : goal.publish-requires-clause-rule
publish-requires-clause-rule g c =
    let h = c.loop-federate.invariant.1 in
    shows _ _ _ (c.me-me.ensures ∙ sym h.seat.number) (subst (λ (l : List ℕ). slice_index l 12 ≤ c.args.to) (sym h.shown) c.requires)

pub returns-clause-shown : goal.returns-clause-shown
returns-clause-shown g c =
    ap (λ (q : P). slice_index q.own.shown 12) c.publish.ensures.place ∙ shown_here _ _ _ c.me-me.result c.args.to c.publish.ensures.told.1

pub returns-clause-leaves : goal.returns-clause-leaves
returns-clause-leaves g c =
    let p : P = g.G.Ground.place c.args.seat.now in
    subst (AdvanceLeaves p) (sym c.publish.ensures.place) (shows_leave p _ _ _ c.loop-federate.invariant.1 c.me-me.result c.args.to)

pub returns-clause-steps : goal.returns-clause-steps
returns-clause-steps g c =
    let p : P = g.G.Ground.place c.args.seat.now in
    let all = c.federates-federate-end.ensures in
    ap (λ (q : P). q.own.steps) c.publish.ensures.place ∙ (paced_whole p _ _ _ c.loop-federate.invariant.1 c.me-me.result c.args.to c.publish.ensures.told.1 (omega arith)).0

pub returns-clause-looks : goal.returns-clause-looks
returns-clause-looks g c =
    let p : P = g.G.Ground.place c.args.seat.now in
    let all = c.federates-federate-end.ensures in
    ap (λ (q : P). q.own.looks + 1) c.publish.ensures.place ∙ (paced_whole p _ _ _ c.loop-federate.invariant.1 c.me-me.result c.args.to c.publish.ensures.told.1 (omega arith)).1
