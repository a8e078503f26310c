use Rattle.std.proofs.Common.{◌≡◌, ◌≤◌, ℕ}
use Rattle.std.specs.Prelude.{slice_index}
use Rattle.kit_ground.specs.Steps.{IsSameSeat, buffer_of}
use Rattle.letter_threads.proofs.trades.trade.Given as goal

abbrev pub invariant-loop-turn : goal.invariant-loop-turn
invariant-loop-turn g l =
    g.G.Ground.came l.initial.seat l.seat
    × IsSameSeat (g.G.Ground.place l.initial.seat) (g.G.Ground.place l.seat)
    × ((k : ℕ) → (buffer_of (g.G.Ground.place l.seat).own.stock k).to_post ≡ 0)
    × (slice_index (g.G.Ground.place l.seat).own.shown 12 ≤ l.turn)
