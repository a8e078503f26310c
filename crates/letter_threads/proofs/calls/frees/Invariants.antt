use Rattle.std.proofs.Common.{◌≡◌, ℕ}
use Rattle.kit_ground.specs.Steps.{buffer_of}
use Rattle.letter_threads.proofs.calls.frees.Given as goal

abbrev pub invariant-loop-turn : goal.invariant-loop-turn
invariant-loop-turn g l = g.G.Ground.came l.initial.seat l.seat × ((g.G.Ground.place l.seat).own.buffers ≡ (g.G.Ground.place l.initial.seat).own.buffers) × ((buffer_of (g.G.Ground.place l.seat).own.stock 0).to_post ≡ 0)
