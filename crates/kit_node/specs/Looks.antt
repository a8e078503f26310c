-- Looks for a free buffer.
use Rattle.std.specs.Prelude.{◌≡◌, ℕ, ◌<◌, true, false}
use Rattle.kit_ground.specs.declared.place.Place.{Place}
use Rattle.kit_ground.specs.Steps.{buffer_of}
use Rattle.kit_lbts.specs.declared.view.LbtsView.{LbtsView}
use Rattle.kit_node.specs.Frames.{IsSameSeat, IsSince, last_count}

abbrev Seat : Type 0
Seat = Place LbtsView

-- of the place only the looks at own counts were changed, and what was seen free
pub record LooksAtCounts (p q : Seat) : Type 0 where
  pub seat : IsSameSeat p q
  pub registers : q.own.registers ≡ p.own.registers
  pub mail : q.own.mail ≡ p.own.mail
  pub stop : q.own.stop ≡ p.own.stop
  pub shown : q.own.shown ≡ p.own.shown
  pub collects : q.own.collects ≡ p.own.collects
  pub holds : q.own.stock.holds ≡ p.own.stock.holds
  pub view : q.client ≡ p.client

-- the buffer k was seen free
pub record HasFound (p q : Seat) (k : ℕ) : Type 0 where
  pub inside : k < q.own.buffers
  pub since : IsSince p (last_count q k)
  pub gave : (last_count q k).gave ≡ true
  pub free : (buffer_of q.own.stock k).free ≡ true

-- each of the first n own counts was looked at since p, and was not 0
abbrev pub HasFoundNone : Seat → ℕ → Seat → Type 0
HasFoundNone p n q = (k : ℕ) → k < n → IsSince p (last_count q k) × ((last_count q k).gave ≡ false)
