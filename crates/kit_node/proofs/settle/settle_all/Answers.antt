use Rattle.std.proofs.Common.{◌≡◌, ◌<◌, ◌≤◌, ℕ, true, List, inr, sym, ap, subst, ◌∙◌}
use Rattle.std.specs.Prelude.{Some, count_by}
use Rattle.kit_ground.specs.declared.place.Place.{Place}
use Rattle.kit_queue.specs.declared.entry.Entry.{Entry}
use Rattle.kit_queue.specs.Entries.{first_buffer, is_settleable, with_first_settled}
use Rattle.kit_lbts.specs.declared.view.LbtsView.{LbtsView}
use Rattle.kit_lbts.specs.MessageLaws.{MaySettleFirst}
use Rattle.kit_lbts.specs.Promises.{bound_of}
use Rattle.kit_lbts.specs.SeatLaws.{IsInWorld}
use Rattle.kit_lbts.proofs.WithAgreement.{settles_told}
use Rattle.kit_node.proofs.Settlings.{fewer}
use Rattle.kit_node.proofs.SettleSteps.{SettlesOn, settles_all, settles_first, settles_more}
use Rattle.kit_node.proofs.settle.settle_all.Goals as goal

abbrev P : Type 0
P = Place LbtsView

-- what the first buffer below the bound tells
may_first : (bound i k : ℕ) (p q : P) → bound ≤ bound_of p.client → q.client ≡ record p.client { queue = q.client.queue } → IsInWorld q → (es : List Entry) → es ≡ q.client.queue
    → Some (i, k) ≡ first_buffer bound es → (first_buffer bound q.client.queue ≡ Some (i, k)) × MaySettleFirst q bound i k
may_first bound i k p q below view w es is taken =
    let first : first_buffer bound q.client.queue ≡ Some (i, k) = ap (first_buffer bound) (sym is) ∙ sym taken in
    let known : bound ≤ bound_of q.client = subst (λ (b : ℕ). bound ≤ b) (sym (ap bound_of view)) below in
    (first, settles_told q bound i k known first w.0 w.1 w.2)

pub release-requires-clause-from : goal.release-requires-clause-from
release-requires-clause-from g c =
    let p : P = g.G.Ground.place c.args.ground.now in
    let q : P = g.G.Ground.place c.loop-sender.ground in
    let inv = c.loop-sender.invariant in
    (may_first c.args.bound c.in-Some.sender c.in-Some.buffer p q c.requires.bound inv.settles.view inv.world (g.Q.Order.entries c.loop-sender.queue) inv.queue c.in-Some.ensures.taken).1.from

pub release-requires-clause-buffer : goal.release-requires-clause-buffer
release-requires-clause-buffer g c =
    let p : P = g.G.Ground.place c.args.ground.now in
    let q : P = g.G.Ground.place c.loop-sender.ground in
    let inv = c.loop-sender.invariant in
    (may_first c.args.bound c.in-Some.sender c.in-Some.buffer p q c.requires.bound inv.settles.view inv.world (g.Q.Order.entries c.loop-sender.queue) inv.queue c.in-Some.ensures.taken).1.buffer

pub release-requires-clause-may : goal.release-requires-clause-may
release-requires-clause-may g c =
    let p : P = g.G.Ground.place c.args.ground.now in
    let q : P = g.G.Ground.place c.loop-sender.ground in
    let inv = c.loop-sender.invariant in
    inr (may_first c.args.bound c.in-Some.sender c.in-Some.buffer p q c.requires.bound inv.settles.view inv.world (g.Q.Order.entries c.loop-sender.queue) inv.queue c.in-Some.ensures.taken).1.may

pub loop-sender-init : goal.loop-sender-init
loop-sender-init g c = record {
  came = g.met.G.Ground.came_here c.args.ground.now;
  world = c.requires.world;
  queue = c.requires.queue;
  settles = settles_first c.args.bound (g.G.Ground.place c.args.ground.now);
}

pub loop-sender-smaller : goal.loop-sender-smaller
loop-sender-smaller g c =
    let es : List Entry = g.Q.Order.entries c.loop-sender.queue in
    subst (λ (l : List Entry). count_by (is_settleable c.args.bound) l < count_by (is_settleable c.args.bound) es) (sym c.in-Some.ensures.rest)
    (fewer c.args.bound es c.in-Some.sender c.in-Some.buffer (sym c.in-Some.ensures.taken))

pub loop-sender-preserved : goal.loop-sender-preserved
loop-sender-preserved g c =
    let p : P = g.G.Ground.place c.args.ground.now in
    let q : P = g.G.Ground.place c.loop-sender.ground in
    let inv = c.loop-sender.invariant in
    let i : ℕ = c.in-Some.sender in
    let k : ℕ = c.in-Some.buffer in
    let m = may_first c.args.bound i k p q c.requires.bound inv.settles.view inv.world (g.Q.Order.entries c.loop-sender.queue) inv.queue c.in-Some.ensures.taken in
    let now = c.release.ensures.place in
    record {
      came = g.met.G.Ground.came_on _ _ _ inv.came c.release.ensures.came;
      world = c.release.ensures.world;
      queue = c.in-Some.ensures.rest ∙ (ap (with_first_settled c.args.bound) inv.queue ∙ (sym m.1.queue ∙ ap (λ (r : P). r.client.queue) (sym now)));
      settles = subst (λ (r : P). SettlesOn c.args.bound true p r) (sym now) (settles_more c.args.bound i k c.loop-sender.released p q c.requires.spent inv.settles m.0 m.1);
    }

pub returns-clause-settled : goal.returns-clause-settled
returns-clause-settled g c =
    let p : P = g.G.Ground.place c.args.ground.now in
    let q : P = g.G.Ground.place c.loop-sender.ground in
    let inv = c.loop-sender.invariant in
    settles_all c.args.bound c.loop-sender.released p q inv.settles (ap (first_buffer c.args.bound) (sym inv.queue) ∙ sym c.in_default.ensures.taken)
