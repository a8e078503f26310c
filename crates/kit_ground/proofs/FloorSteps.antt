-- Each step that is allowed keeps the floor's own rule.
use Rattle.std.proofs.Common.{◌≡◌, ◌≢◌, ℕ, ◌≤◌, List, length, map, sym, ◌∙◌, subst, ⊎_elim, length-set}
use Rattle.std.proofs.lemmas.List.{map-set}
use Rattle.std.specs.Prelude.{slice_set}
use mathlib.Core.Option.{some}
use lib.ListN.{get_elem?}
use Rattle.atomic_table.proofs.Lists.{at_set}
use Rattle.kit_ground.specs.declared.place.Deed.{Deed}
use Rattle.kit_ground.specs.declared.place.Place.{Place}
use Rattle.kit_ground.specs.declared.place.SeatBuffers.{SeatBuffers}
use Rattle.kit_ground.specs.Memory.{Memory, with_word}
use Rattle.kit_ground.specs.Rules.{FloorHolds, OwnFits, stock_of}
use Rattle.kit_ground.specs.Sets.{Pool, no_buffers}
use Rattle.kit_ground.specs.Steps.{Allowed, place_after, address_of, becomes}
use Rattle.kit_ground.proofs.Lists.{at_inside, at_map_or}
use Rattle.kit_ground.proofs.OwnSteps.{memory_after, others_fit_after, own_fits_after, stop_after_step}
use Rattle.kit_ground.proofs.SetSteps.{Mine, pool_after}

module _ {V : Type 0} where
  -- the seat's stock, among the stocks of all
  pub mine : (b : ℕ) (m : Memory) (places : List (Place V)) (me : ℕ) (p : Place V) → FloorHolds b m places → get_elem? places me ≡ some p → Mine (map stock_of places) (length places) b me p.own
  mine b m places me p h at = let e = h.each me p at in record {
    stock = at_map_or stock_of places me p no_buffers at;
    number = e.number;
    federates = e.federates;
    buffers = e.buffers;
    inside = at_inside places me p at;
  }

  pub floored_after : (b : ℕ) (m : Memory) (places : List (Place V)) (me : ℕ) (p : Place V) (next : Deed → Place V → V) (deed : Deed) → FloorHolds b m places → get_elem? places me ≡ some p
      → Allowed p.own deed (m (address_of p.own deed))
      → FloorHolds b (with_word m (address_of p.own deed) (becomes deed (m (address_of p.own deed)))) (slice_set places me (place_after next deed p))
  floored_after b m places me p next deed h at allowed =
      let q : Place V = place_after next deed p in
      let n : ℕ = length places in
      let number : p.own.number ≡ me = (h.each me p at).number in
      let long : length (slice_set places me q) ≡ n = length-set places me q in
      let now : Memory = memory_after m p.own deed in
      let own = own_fits_after m n b p.own deed allowed (subst (λ (j : ℕ). OwnFits m n b j p.own) (sym number) (h.each me p at)) in
      record {
        few = subst (λ (k : ℕ). k ≤ 16) (sym long) h.few;
        small = h.small;
        each = λ j r e. subst (λ (k : ℕ). OwnFits now k b j r.own) (sym long) (⊎_elim
            (λ (t : (j ≡ me) × (q ≡ r)). subst (λ (x : ℕ × Place V). OwnFits now n b x.0 x.1.own) (λ i. ((number ∙ sym t.0) i, t.1 i)) own)
            (λ (t : (j ≢ me) × (get_elem? places j ≡ some r)). others_fit_after m n b j p.own r.own deed allowed (λ x. t.0 (x ∙ number)) (h.each j r t.1))
            (at_set places me j q r e));
        pool = subst (λ (x : List SeatBuffers × ℕ). Pool now x.0 x.1 b) (λ i. (sym (map-set stock_of places me q) i, sym long i))
            (pool_after m (map stock_of places) n b me p.own h.few h.small h.pool (mine b m places me p h at) deed allowed);
        stop = stop_after_step m p.own deed h.stop;
      }
