use Rattle.std.proofs.Common.{◌+◌, drop, sym, ◌∙◌}
use Rattle.kit_ground.specs.declared.place.Place.{Place}
use Rattle.kit_lbts.specs.declared.view.LbtsView.{LbtsView}
use Rattle.kit_node.specs.declared.outbox.Outbox.{Outbox}
use Rattle.kit_node.proofs.PostedAll.{sent_all, some_more, some_none, still_whole}
use Rattle.kit_node.proofs.PostingOn.{colour_still, federation_still, fewer_wait, first_waits, mirrors_still}
use Rattle.kit_node.proofs.outbox.Outbox.post_all.Goals as goal

abbrev P : Type 0
P = Place LbtsView

pub loop-message-init : goal.loop-message-init
loop-message-init g c = record {
  came = g.met.G.Ground.came_here c.args.ground.now;
  world = c.requires.world;
  some = some_none (g.G.Ground.place c.args.ground.now);
  mirrors = c.requires.mirrors;
}

pub free_buffer-requires-clause-whole : goal.free_buffer-requires-clause-whole
free_buffer-requires-clause-whole g c = still_whole c.loop-message.posted (g.G.Ground.place c.args.ground.now) (g.G.Ground.place c.loop-message.ground) c.loop-message.invariant.some c.requires.whole

pub returns-clause-sent : goal.returns-clause-sent
returns-clause-sent g c =
    let inv = c.loop-message.invariant in
    sent_all c.loop-message.posted (g.G.Ground.place c.args.ground.now) (g.G.Ground.place c.loop-message.ground) inv.some (sym inv.mirrors.messages ∙ c.in_default.ensures.none)

pub post_first-requires-clause-federation : goal.post_first-requires-clause-federation
post_first-requires-clause-federation g c =
    let p : P = g.G.Ground.place c.args.ground.now in
    let q : P = g.G.Ground.place c.loop-message.ground in
    let r : P = g.G.Ground.place c.free_buffer.new.ground in
    federation_still c.loop-message.posted p q r c.loop-message.invariant.some c.free_buffer.ensures.looks c.args.federation.now c.requires.federation

pub post_first-requires-clause-buffer : goal.post_first-requires-clause-buffer
post_first-requires-clause-buffer g c = c.in-Some-free_buffer.ensures.found.inside

pub post_first-requires-clause-free : goal.post_first-requires-clause-free
post_first-requires-clause-free g c = c.in-Some-free_buffer.ensures.found.free

pub post_first-requires-clause-first : goal.post_first-requires-clause-first
post_first-requires-clause-first g c =
    let p : P = g.G.Ground.place c.args.ground.now in
    let q : P = g.G.Ground.place c.loop-message.ground in
    let r : P = g.G.Ground.place c.free_buffer.new.ground in
    let inv = c.loop-message.invariant in
    let o : Outbox = c.loop-message.self in
    first_waits c.loop-message.posted p q r inv.some c.free_buffer.ensures.looks o c.in-Some.message (drop (o.done + 1) o.messages.items) c.requires.whole inv.mirrors c.in-Some.ensures.some

pub post_first-requires-clause-colour : goal.post_first-requires-clause-colour
post_first-requires-clause-colour g c =
    let p : P = g.G.Ground.place c.args.ground.now in
    let q : P = g.G.Ground.place c.loop-message.ground in
    let r : P = g.G.Ground.place c.free_buffer.new.ground in
    colour_still c.loop-message.posted p q r c.loop-message.invariant.some c.free_buffer.ensures.looks c.args.colour c.requires.colour

pub post_first-requires-clause-mirrors : goal.post_first-requires-clause-mirrors
post_first-requires-clause-mirrors g c = mirrors_still c.loop-message.self (g.G.Ground.place c.loop-message.ground) (g.G.Ground.place c.free_buffer.new.ground) c.free_buffer.ensures.looks c.loop-message.invariant.mirrors

pub loop-message-smaller : goal.loop-message-smaller
loop-message-smaller g c =
    let q : P = g.G.Ground.place c.loop-message.ground in
    let r : P = g.G.Ground.place c.free_buffer.new.ground in
    let s : P = g.G.Ground.place c.post_first.new.ground in
    fewer_wait c.loop-message.self c.post_first.new.self q r s c.loop-message.invariant.mirrors c.free_buffer.ensures.looks c.post_first.ensures.posted c.post_first.ensures.mirrors

pub loop-message-preserved : goal.loop-message-preserved
loop-message-preserved g c =
    let p : P = g.G.Ground.place c.args.ground.now in
    let q : P = g.G.Ground.place c.loop-message.ground in
    let r : P = g.G.Ground.place c.free_buffer.new.ground in
    let s : P = g.G.Ground.place c.post_first.new.ground in
    let inv = c.loop-message.invariant in
    record {
      came = g.met.G.Ground.came_on _ _ _ (g.met.G.Ground.came_on _ _ _ inv.came c.free_buffer.ensures.came) c.post_first.ensures.came;
      world = c.post_first.ensures.world;
      some = some_more c.loop-message.posted p q r s inv.some c.free_buffer.ensures.looks c.post_first.ensures.posted;
      mirrors = c.post_first.ensures.mirrors;
    }
