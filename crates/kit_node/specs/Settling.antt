-- The return of buffers of messages that cannot be retracted any more.
use Rattle.std.specs.Prelude.{◌≡◌, ℕ, ◌<◌, Bool, true, false, if◌then◌else◌, List, All, map, count_by, None}
use Rattle.kit_queue.specs.declared.entry.Entry.{Entry}
use Rattle.kit_queue.specs.Entries.{is_settleable, without_buffer}
use Rattle.kit_ground.specs.declared.place.Place.{Place}
use Rattle.kit_lbts.specs.declared.view.LbtsView.{LbtsView}
use Rattle.kit_lbts.specs.Promises.{bound_of}
use Rattle.kit_node.specs.Frames.{IsSameSeat}

abbrev Seat : Type 0
Seat = Place LbtsView

-- each entry that is timed below the bound has its buffer given up
abbrev pub settled_or_same : ℕ → Entry → Entry
settled_or_same below e = if is_settleable below e then without_buffer e else e

abbrev pub settled_below : ℕ → List Entry → List Entry
settled_below below es = map (settled_or_same below) es

-- no message that is timed below the known bound still has its buffer
abbrev pub IsSettled : LbtsView → Type 0
IsSettled v = All (λ (e : Entry). e.message.time < bound_of v → e.buffer ≡ None) v.queue

-- of the place only what is held, and the queue of the view, was changed; and it says whether that was
pub record HasSettled (bound : ℕ) (released : Bool) (p q : Seat) : Type 0 where
  pub seat : IsSameSeat p q
  pub registers : q.own.registers ≡ p.own.registers
  pub counts : q.own.counts ≡ p.own.counts
  pub mail : q.own.mail ≡ p.own.mail
  pub stop : q.own.stop ≡ p.own.stop
  pub shown : q.own.shown ≡ p.own.shown
  pub collects : q.own.collects ≡ p.own.collects
  pub buffers : q.own.stock.buffers ≡ p.own.stock.buffers
  pub view : q.client ≡ record p.client { queue = settled_below bound p.client.queue }
  pub none : released ≡ false → q ≡ p
  pub some : released ≡ true → 0 < count_by (is_settleable bound) p.client.queue
