use Rattle.std.proofs.Common.{ℕ, ◌+◌, ◌<◌, false, sym, ap, ◌∙◌, subst, rules}
use Rattle.kit_ground.specs.declared.place.Place.{Place}
use Rattle.kit_lbts.specs.declared.view.LbtsView.{LbtsView}
use Rattle.kit_node.specs.Looks.{HasFound, HasFoundNone, LooksAtCounts}
use Rattle.kit_node.proofs.CountLooks.{finds, finds_none, in_counts, in_stock, leaves, leaves_on, looked}
use Rattle.kit_node.proofs.send.free_buffer.Goals as goal

abbrev P : Type 0
P = Place LbtsView

pub returns-then-is_free-clause-looks : goal.returns-then-is_free-clause-looks
returns-then-is_free-clause-looks g c =
    let p : P = g.G.Ground.place c.args.ground.now in
    let q : P = g.G.Ground.place c.loop-buffer.ground in
    let k : ℕ = c.loop-buffer.buffer in
    subst (λ (r : P). LooksAtCounts p r) (sym c.is_free.ensures.place) (leaves_on p q (looked q k c.is_free.result) c.loop-buffer.invariant.looks (leaves q k c.is_free.result))

pub returns-then-is_free-clause-found : goal.returns-then-is_free-clause-found
returns-then-is_free-clause-found g c =
    let p : P = g.G.Ground.place c.args.ground.now in
    let q : P = g.G.Ground.place c.loop-buffer.ground in
    let k : ℕ = c.loop-buffer.buffer in
    let inv = c.loop-buffer.invariant in
    let is = c.is_free.ensures.place ∙ ap (λ x. looked q k x) c.if-is_free.true in
    let inside : k < q.own.buffers = search rules in
    subst (λ (r : P). HasFound p r k) (sym is) (finds p q k inv.looks.seat.steps inside (in_counts q k inside inv.world) (in_stock q k inside inv.world))

pub loop-buffer-preserved : goal.loop-buffer-preserved
loop-buffer-preserved g c =
    let p : P = g.G.Ground.place c.args.ground.now in
    let q : P = g.G.Ground.place c.loop-buffer.ground in
    let k : ℕ = c.loop-buffer.buffer in
    let inv = c.loop-buffer.invariant in
    let is = c.is_free.ensures.place ∙ ap (λ x. looked q k x) c.if-is_free.false in
    let inside : k < q.own.buffers = search rules in
    record {
      came = g.met.G.Ground.came_on _ _ _ inv.came c.is_free.ensures.came;
      world = c.is_free.ensures.world;
      looks = subst (λ (r : P). LooksAtCounts p r) (sym is) (leaves_on p q (looked q k false) inv.looks (leaves q k false));
      none = subst (λ (r : P). HasFoundNone p (k + 1) r) (sym is) (finds_none p q k inv.looks.seat.steps (in_counts q k inside inv.world) inv.none);
    }

pub is_free-requires-clause-whole : goal.is_free-requires-clause-whole
is_free-requires-clause-whole g c = ap (λ (v : LbtsView). v.sending) c.loop-buffer.invariant.looks.view ∙ c.requires.whole
