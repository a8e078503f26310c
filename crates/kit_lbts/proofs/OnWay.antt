-- What a world tells of the buffers that are on their way.
use Rattle.std.proofs.Common.{◌≡◌, ℕ, ◌+◌, ◌<◌, true, List, length, map, sym, ap, ◌∙◌, subst, arith}
use Rattle.std.specs.List.{count_by}
use Rattle.std.specs.Prelude.{slice_index}
use Rattle.std.specs.Int.{bit_at}
use mathlib.Core.Option.{some}
use lib.ListN.{get_elem?}
use Rattle.kit_ground.specs.declared.place.Place.{Place}
use Rattle.kit_ground.specs.declared.place.SeatBuffers.{SeatBuffers}
use Rattle.kit_ground.specs.Memory.{Memory}
use Rattle.kit_ground.specs.Rules.{World, stock_of}
use Rattle.kit_ground.specs.Sets.{holding, no_buffers, stock_at}
use Rattle.kit_ground.specs.Steps.{buffer_of}
use Rattle.kit_ground.proofs.Lists.{at_inside, at_map_or}
use Rattle.kit_ground.proofs.SetFacts.{free_in_none, to_be_posted_due}
use Rattle.kit_lbts.specs.declared.view.LbtsView.{LbtsView}
use Rattle.kit_lbts.specs.Views.{is_in_hand, is_spent}
use Rattle.kit_lbts.specs.Seats.{waits_in}
use Rattle.kit_lbts.specs.Ways.{mark_in_mail}
use Rattle.kit_lbts.specs.Rule.{lbts_rule}

abbrev P : Type 0
P = Place LbtsView

three : (h a b c : ℕ) → h ≡ a + b + c → h ≡ 0 → (a ≡ 0) × (b ≡ 0) × (c ≡ 0)
three h a b c e z = (omega arith, omega arith, omega arith)

module _ (p : P) (m : Memory) (places : List P) (w : World lbts_rule p m places) where
  abbrev stocks : List SeatBuffers
  stocks = map stock_of places

  module _ (j : ℕ) (s : P) (at : get_elem? places j ≡ some s) where
    pub there : j < length places
    there = at_inside places j s at

    stock_is : stock_at stocks j ≡ s.own.stock
    stock_is = at_map_or stock_of places j s no_buffers at

    pub federates_there : (i : ℕ) → i < length places → i < s.own.federates
    federates_there i li = subst (λ (n : ℕ). i < n) (sym (w.floor.each j s at).federates) li

    pub buffers_there : (k : ℕ) → k < p.own.buffers → k < s.own.buffers
    buffers_there k lk = subst (λ (n : ℕ). k < n) (sym (w.floor.each j s at).buffers) lk

    pub holding_is : (i k : ℕ) → holding m stocks i k j ≡ bit_at (slice_index s.own.stock.holds i) k
    holding_is i k = ap (λ (t : SeatBuffers). bit_at (slice_index t.holds i) k) stock_is

    -- what is not held is not in hand, does not wait and is not spent
    pub not_held : (i k : ℕ) → i < length places → k < p.own.buffers → bit_at (slice_index s.own.stock.holds i) k ≡ 0
        → (count_by (is_in_hand i k) s.client.in_hand ≡ 0) × (count_by (waits_in i k) s.client.queue ≡ 0) × (count_by (is_spent i k) s.client.spent ≡ 0)
    not_held i k li lk off = three (bit_at (slice_index s.own.stock.holds i) k) (count_by (is_in_hand i k) s.client.in_hand) (count_by (waits_in i k) s.client.queue) (count_by (is_spent i k) s.client.spent)
        ((w.client.each j s at).holdings.each i k (federates_there i li) (buffers_there k lk)) off

    module _ (i k : ℕ) (r : P) (ati : get_elem? places i ≡ some r) (lk : k < p.own.buffers) where
      inside : i < length places
      inside = at_inside places i r ati

      owner_is : stock_at stocks i ≡ r.own.stock
      owner_is = at_map_or stock_of places i r no_buffers ati

      -- a buffer that its owner saw free is not on its way, nor is one that is still to be posted
      pub free_off : (buffer_of r.own.stock k).free ≡ true → (mark_in_mail m i j k ≡ 0) × (bit_at (slice_index s.own.stock.holds i) k ≡ 0)
      free_off free =
          let t = free_in_none m stocks (length places) p.own.buffers w.floor.pool i k inside lk j there (ap (λ (x : SeatBuffers). (buffer_of x k).free) owner_is ∙ free) in
          (t.posted, sym (holding_is i k) ∙ t.holding)

      pub owed_off : bit_at (buffer_of r.own.stock k).to_post j ≡ 1 → (mark_in_mail m i j k ≡ 0) × (bit_at (slice_index s.own.stock.holds i) k ≡ 0)
      owed_off owed =
          let t = to_be_posted_due m stocks (length places) p.own.buffers w.floor.pool i k inside lk j there (ap (λ (x : SeatBuffers). bit_at (buffer_of x k).to_post j) owner_is ∙ owed) in
          (t.1, sym (holding_is i k) ∙ t.2)
