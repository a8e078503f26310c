use Rattle.kit_lbts.specs.SeatLaws.{IsInWorld}
use Rattle.kit_node.specs.Looks.{HasFoundNone, LooksAtCounts}
use Rattle.kit_node.proofs.send.free_buffer.Given as goal

abbrev pub invariant-loop-buffer : goal.invariant-loop-buffer
invariant-loop-buffer g l = record {
  came : g.G.Ground.came l.initial.ground l.ground;
  world : IsInWorld (g.G.Ground.place l.ground);
  looks : LooksAtCounts (g.G.Ground.place l.initial.ground) (g.G.Ground.place l.ground);
  none : HasFoundNone (g.G.Ground.place l.initial.ground) l.buffer (g.G.Ground.place l.ground);
}
