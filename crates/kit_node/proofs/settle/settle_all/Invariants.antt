use Rattle.std.proofs.Common.{◌≡◌}
use Rattle.std.specs.Prelude.{count_by}
use Rattle.kit_queue.specs.Entries.{is_settleable}
use Rattle.kit_lbts.specs.SeatLaws.{IsInWorld}
use Rattle.kit_node.proofs.SettleSteps.{SettlesOn}
use Rattle.kit_node.proofs.settle.settle_all.Given as goal

abbrev pub invariant-loop-sender : goal.invariant-loop-sender
invariant-loop-sender g l = record {
  came : g.G.Ground.came l.initial.ground l.ground;
  world : IsInWorld (g.G.Ground.place l.ground);
  queue : g.Q.Order.entries l.queue ≡ (g.G.Ground.place l.ground).client.queue;
  settles : SettlesOn l.bound l.released (g.G.Ground.place l.initial.ground) (g.G.Ground.place l.ground);
}

abbrev pub decreases-loop-sender : goal.decreases-loop-sender
decreases-loop-sender g l = count_by (is_settleable l.bound) (g.Q.Order.entries l.queue)
