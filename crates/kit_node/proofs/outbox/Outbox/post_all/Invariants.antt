use Rattle.std.proofs.Common.{length}
use Rattle.kit_lbts.specs.SeatLaws.{IsInWorld}
use Rattle.kit_node.specs.Fields.{waiting_in}
use Rattle.kit_node.specs.Mirrors.{MirrorsOutbox}
use Rattle.kit_node.proofs.PostedAll.{HasPostedSome}
use Rattle.kit_node.proofs.outbox.Outbox.post_all.Given as goal

abbrev pub invariant-loop-message : goal.invariant-loop-message
invariant-loop-message g l = record {
  came : g.G.Ground.came l.initial.ground l.ground;
  world : IsInWorld (g.G.Ground.place l.ground);
  some : HasPostedSome l.posted (g.G.Ground.place l.initial.ground) (g.G.Ground.place l.ground);
  mirrors : MirrorsOutbox l.self (g.G.Ground.place l.ground).client;
}

abbrev pub decreases-loop-message : goal.decreases-loop-message
decreases-loop-message g l = length (waiting_in l.self)
