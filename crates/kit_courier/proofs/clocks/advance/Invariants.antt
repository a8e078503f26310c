use Rattle.kit_courier.proofs.Looks.{HasSearched}
use Rattle.kit_courier.proofs.clocks.advance.Given as goal

abbrev pub invariant-loop-federate : goal.invariant-loop-federate
invariant-loop-federate g l = g.G.Ground.came l.initial.seat l.seat × HasSearched (g.G.Ground.place l.initial.seat) l.federate l.least (g.G.Ground.place l.seat)
