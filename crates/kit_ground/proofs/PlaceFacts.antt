-- What the floor's rule tells of one federate's place.
use Rattle.std.proofs.Common.{◌≡◌, ℕ, ◌+◌, ◌*◌, ◌<◌, true, List, length, map, sym, ap, ◌∙◌}
use Rattle.std.specs.Prelude.{slice_index}
use Rattle.std.specs.Int.{bit_at}
use mathlib.Core.Option.{some}
use lib.ListN.{get_elem?}
use Rattle.kit_ground.specs.declared.address.Address.TheVariants.{Mail, Count, Part}
use Rattle.kit_ground.specs.declared.place.Place.{Place}
use Rattle.kit_ground.specs.declared.place.SeatBuffers.{SeatBuffers}
use Rattle.kit_ground.specs.Memory.{Memory}
use Rattle.kit_ground.specs.Rules.{FloorHolds, stock_of}
use Rattle.kit_ground.specs.Sets.{due, no_buffers, stock_at}
use Rattle.kit_ground.specs.Steps.{buffer_of, part_of}
use Rattle.kit_ground.proofs.Lists.{at_inside, at_map_or}
use Rattle.kit_ground.proofs.SetFacts.{count_above, holding_due, mail_within}

module _ {V : Type 0} (b : ℕ) (m : Memory) (places : List (Place V)) (h : FloorHolds b m places) (j : ℕ) (p : Place V) (at : get_elem? places j ≡ some p) where
  inside : j < length places
  inside = at_inside places j p at

  is : stock_at (map stock_of places) j ≡ stock_of p
  is = at_map_or stock_of places j p no_buffers at

  pub buffers_wide : length p.own.stock.buffers ≡ b
  buffers_wide = ap (λ (s : SeatBuffers). length s.buffers) (sym is) ∙ (h.pool.sized j inside).0

  pub holds_wide : length p.own.stock.holds ≡ length places
  holds_wide = ap (λ (s : SeatBuffers). length s.holds) (sym is) ∙ (h.pool.sized j inside).1

  -- an own buffer that was seen free counts nobody
  pub free_uncounted : (k : ℕ) → k < b → (buffer_of p.own.stock k).free ≡ true → m (Count j k) ≡ 0
  free_uncounted k lk free = h.pool.free j k inside lk (ap (λ (s : SeatBuffers). (buffer_of s k).free) is ∙ free)

  -- the words of an own buffer are those that were last written
  pub content_is : (k x : ℕ) → k < b → x < 2 → m (Part j k x) ≡ part_of x (buffer_of p.own.stock k)
  content_is k x lk lx = h.pool.content j k x inside lk lx ∙ ap (λ (s : SeatBuffers). part_of x (buffer_of s k)) is

  module _ (i k : ℕ) (li : i < length places) where
    -- a seat that holds a buffer is due, and is counted
    pub held_due : k < b → bit_at (slice_index p.own.stock.holds i) k ≡ 1 → due m (map stock_of places) i k j ≡ 1
    held_due lk held = (holding_due m (map stock_of places) (length places) b h.pool i k li lk j inside (ap (λ (s : SeatBuffers). bit_at (slice_index s.holds i) k) is ∙ held)).0

    pub held_counted : k < b → bit_at (slice_index p.own.stock.holds i) k ≡ 1 → 0 < m (Count i k)
    held_counted lk held = count_above m (map stock_of places) (length places) b h.pool i k li lk j inside (held_due lk held)

  -- mail is of buffers that there are
  pub mailed_within : (i w c : ℕ) → i < length places → bit_at (m (Mail j i w)) c ≡ 1 → (c < 64) × (64 * w + c < b)
  mailed_within i w c li = mail_within m (map stock_of places) (length places) b h.pool j i w c inside li
