use Rattle.std.proofs.Common.{◌≡◌, ℕ}
use Rattle.kit_ground.specs.Steps.{IsSameSeat, buffer_of}
use Rattle.letter_threads.proofs.trades.exchange_all.Given as goal

abbrev pub invariant-loop-other : goal.invariant-loop-other
invariant-loop-other g l =
    g.G.Ground.came l.initial.seat l.seat
    × IsSameSeat (g.G.Ground.place l.initial.seat) (g.G.Ground.place l.seat)
    × ((k : ℕ) → (buffer_of (g.G.Ground.place l.seat).own.stock k).to_post ≡ 0)
    × ((g.G.Ground.place l.seat).own.shown ≡ (g.G.Ground.place l.initial.seat).own.shown)
