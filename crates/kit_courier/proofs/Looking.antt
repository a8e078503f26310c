-- A look at a clock, a guest's too, and the publishing of the own clock.
use Rattle.std.proofs.Common.{◌≡◌, ℕ, zero, suc, ◌<◌, ◌≤◌, List, [], ◌∷◌, length, refl, sym, ap, ◌∙◌, subst, arith, le_refl, length-set, get_or-set_other}
use Rattle.std.specs.Prelude.{slice_index, slice_set}
use mathlib.Core.Logic.{dite}
use native.Mathlib.Decide.{ℕ_discrete}
use Rattle.kit_ground.specs.declared.address.Address.TheVariants.{Register}
use Rattle.kit_ground.specs.declared.place.Deed.TheVariants.{Looked, Published}
use Rattle.kit_ground.specs.declared.place.Place.{Place}
use Rattle.kit_ground.specs.Guests.{GuestKeeps}
use Rattle.kit_ground.specs.Memory.{Memory, with_word}
use Rattle.kit_ground.specs.Rules.{Keeps}
use Rattle.kit_ground.proofs.Memories.{register_else, stored_here, stored_same}
use Rattle.kit_ground.specs.Steps.{Allowed, address_of}
use Rattle.kit_courier.specs.declared.view.CourierView.{CourierView}
use Rattle.kit_courier.specs.Clocks.{Knows, clock}
use Rattle.kit_courier.specs.Couriers.{courier_rule}
use Rattle.kit_courier.specs.Deliveries.{view_after}
use Rattle.kit_ground.specs.Layout.{clock_of}
use Rattle.kit_courier.proofs.Keeping.{kept, known_here}
use Rattle.kit_courier.proofs.LetterSteps.{head_still, letters_still, mine}

set_at_most : (l : List ℕ) (i n : ℕ) → slice_index (slice_set l i n) i ≤ n
set_at_most [] i n = omega arith
set_at_most (x ∷ xs) zero n = le_refl n
set_at_most (x ∷ xs) (suc i) n = set_at_most xs i n

-- what was found is known, and no more
knows_found : (m : Memory) (n k : ℕ) (v : CourierView) → Knows m n v → Knows m n (record v { known = slice_set v.known k (clock m k) })
knows_found m n k v h = record {
  wide = length-set v.known k (clock m k) ∙ h.wide;
  behind = λ j lj. dite (ℕ_discrete j k)
      (λ same. subst (λ (x : ℕ). slice_index (slice_set v.known k (clock m k)) x ≤ clock m x) (sym same) (set_at_most v.known k (clock m k)))
      (λ other. subst (λ (x : ℕ). x ≤ clock m j) (sym (get_or-set_other v.known k j (clock m k) 0 other)) (h.behind j lj));
}

module _ (p : Place CourierView) where
  pub learns : (k : ℕ) → k < p.own.federates → Keeps courier_rule view_after p (Register (clock_of k)) (λ word. Looked (clock_of k) word)
  learns k lk m places w =
      let word : ℕ = m (Register (clock_of k)) in
      let deed = Looked (clock_of k) word in
      let now : Memory = with_word m (Register (clock_of k)) word in
      let same : m ≡ now = sym (stored_same m (Register (clock_of k))) in
      let slot : 12 < 13 = omega arith in
      let allowed : Allowed p.own deed (m (address_of p.own deed)) = ((lk, slot), refl) in
      let rule = mine p m places w deed allowed in
      let rises : (j : ℕ) → j < length places → clock m j ≤ clock now j = λ j lj. subst (λ (x : Memory). clock m j ≤ clock x j) same (le_refl (clock m j)) in
      kept p m places w now deed rises
      (subst (λ (x : Memory). Knows x (length places) (view_after deed p)) same (knows_found m (length places) k p.client (known_here p m places w now deed)))
      (letters_still p m places w deed allowed (λ i x j c. c) refl
      (λ r is. let h = rule.reading r is in record { from = h.from; buffer = h.buffer; held = h.held; head = head_still p m places w deed allowed p.own.number p w.here r h })
      (λ t has. rule.got t has))

  -- a clock that does not fall
  pub shows : (me word : ℕ) → me ≡ p.own.number → slice_index p.own.shown 12 ≤ word → Keeps courier_rule view_after p (Register (clock_of me)) (λ _. Published (clock_of me) word)
  shows me word is high m places w =
      let deed = Published (clock_of me) word in
      let now : Memory = with_word m (Register (clock_of me)) word in
      let shown : clock m p.own.number ≡ slice_index p.own.shown 12 = (w.floor.each p.own.number p w.here).shows 12 (omega arith) in
      let slot : 12 < 13 = omega arith in
      let allowed : Allowed p.own deed (m (address_of p.own deed)) = (is, slot) in
      let rule = mine p m places w deed allowed in
      let rises : (j : ℕ) → j < length places → clock m j ≤ clock now j = λ j lj. dite (ℕ_discrete j me)
      (λ same. let a : clock m j ≡ slice_index p.own.shown 12 = ap (clock m) (same ∙ is) ∙ shown in
      let b : clock now j ≡ word = ap (clock now) same ∙ stored_here m (Register (clock_of me)) word in omega arith)
      (λ other. let e : clock now j ≡ clock m j = register_else m (clock_of me) (clock_of j) word (λ same. absurd (other same)) in omega arith) in
      let h = known_here p m places w now deed in
      kept p m places w now deed rises
      (record { wide = h.wide; behind = λ j lj. let a = h.behind j lj in let b = rises j lj in omega arith })
      (letters_still p m places w deed allowed (λ i x j c. c) refl
      (λ r same. let x = rule.reading r same in record { from = x.from; buffer = x.buffer; held = x.held; head = head_still p m places w deed allowed p.own.number p w.here r x })
      (λ t has. rule.got t has))

  -- a guest's look at a clock
  pub guest_learns : (k : ℕ) → GuestKeeps courier_rule view_after p (Register (clock_of k)) (λ word. Looked (clock_of k) word)
  guest_learns k m places w = knows_found m (length places) k p.client w.sees
