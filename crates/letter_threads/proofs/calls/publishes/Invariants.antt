use Rattle.std.proofs.Common.{◌≡◌, ℕ}
use Rattle.letter_threads.proofs.calls.publishes.Given as goal

abbrev pub invariant-loop-turn : goal.invariant-loop-turn
invariant-loop-turn g l = g.G.Ground.came l.initial.seat l.seat × ((g.G.Ground.place l.seat).own.number ≡ (g.G.Ground.place l.initial.seat).own.number)
