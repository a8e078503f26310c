-- While somebody is in a set of a buffer its content words stay.
use Rattle.std.proofs.Common.{true, false, ◌≡◌, ℕ, ◌<◌, List, length, map, refl, sym, ap, ◌∙◌, subst, true≢false}
use mathlib.Core.Option.{some}
use lib.ListN.{get_elem?}
use Rattle.kit_ground.specs.declared.address.Address.TheVariants.{Part}
use Rattle.kit_ground.specs.declared.place.Deed.{Deed}
use Rattle.kit_ground.specs.declared.place.Deed.TheVariants.{Wrote, ReadPart}
use Rattle.kit_ground.specs.declared.place.Place.{Place}
use Rattle.kit_ground.specs.declared.place.SeatBuffers.{SeatBuffers}
use Rattle.kit_ground.specs.Memory.{Memory, with_word}
use Rattle.kit_ground.specs.Rules.{FloorHolds, stock_of}
use Rattle.kit_ground.specs.Sets.{due, no_buffers, stock_at}
use Rattle.kit_ground.specs.Steps.{Allowed, address_of, becomes, buffer_of}
use Rattle.kit_ground.proofs.Lists.{at_map_or}
use Rattle.kit_ground.proofs.Memories.{part_else, stored_same}
use Rattle.kit_ground.proofs.SetFacts.{due_not_free}

module _ {V : Type 0} (b : ℕ) (m : Memory) (places : List (Place V)) (me : ℕ) (p : Place V) (h : FloorHolds b m places) (at : get_elem? places me ≡ some p) (i k j x : ℕ) (li : i < length places) (lk : k < b) (lj : j < length places) (one : due m (map stock_of places) i k j ≡ 1) where
  -- the seat itself may not write the buffer, since it did not see it free
  not_own : i ≡ p.own.number → (buffer_of p.own.stock k).free ≡ false
  not_own mine =
      let number = (h.each me p at).number in
      let is = at_map_or stock_of places me p no_buffers at in
      sym (ap (λ (s : SeatBuffers). (buffer_of s k).free) (ap (stock_at (map stock_of places)) (mine ∙ number) ∙ is)) ∙ due_not_free m (map stock_of places) (length places) b h.pool i k li lk j lj one

  stays : (deed : Deed) → Allowed p.own deed (m (address_of p.own deed)) → with_word m (address_of p.own deed) (becomes deed (m (address_of p.own deed))) (Part i k x) ≡ m (Part i k x)
  stays (Wrote c q word) a = part_else m p.own.number c q i k x word (λ mine same. absurd (true≢false (sym (subst (λ (y : ℕ). (buffer_of p.own.stock y).free ≡ true) (sym same) a.2) ∙ not_own mine)))
  stays (ReadPart f c q word) a = λ t. stored_same m (Part f c q) t (Part i k x)
  stays _ a = refl

pub words_stay : {V : Type 0} (b : ℕ) (m : Memory) (places : List (Place V)) (me : ℕ) (p : Place V) (deed : Deed) → FloorHolds b m places → get_elem? places me ≡ some p → Allowed p.own deed (m (address_of p.own deed))
    → (i k j x : ℕ) → i < length places → k < b → j < length places → x < 2 → due m (map stock_of places) i k j ≡ 1
    → with_word m (address_of p.own deed) (becomes deed (m (address_of p.own deed))) (Part i k x) ≡ m (Part i k x)
words_stay b m places me p deed h at allowed i k j x li lk lj lx one = stays b m places me p h at i k j x li lk lj one deed allowed
