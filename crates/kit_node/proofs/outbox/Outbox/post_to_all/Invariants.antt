use Rattle.std.proofs.Common.{◌≡◌}
use Rattle.kit_lbts.specs.SeatLaws.{IsInWorld}
use Rattle.kit_node.specs.Sending.{posted_below, posts_after}
use Rattle.kit_node.proofs.outbox.Outbox.post_to_all.Given as goal

abbrev pub invariant-loop-to : goal.invariant-loop-to
invariant-loop-to g l = record {
  came : g.G.Ground.came l.initial.ground l.ground;
  world : IsInWorld (g.G.Ground.place l.ground);
  place : g.G.Ground.place l.ground ≡ posted_below l.to l.buffer l.mask (g.G.Ground.place l.initial.ground);
  posts : l.self.posts ≡ posts_after l.time l.mask l.to l.initial.self.posts;
  messages : l.self.messages ≡ l.initial.self.messages;
  done : l.self.done ≡ l.initial.self.done;
  put : l.self.put ≡ l.initial.self.put;
}
