-- Steps that leave the view, and what the seat holds: a look at a count, a write of a content word, and a post.
use Rattle.std.proofs.Common.{true, ◌≡◌, ℕ, ◌/◌, ◌<◌, ◌==◌, refl}
use Rattle.std.specs.Int.{bit_at}
use Rattle.kit_ground.specs.declared.address.Address.TheVariants.{Mail, Count, Part}
use Rattle.kit_ground.specs.declared.place.Deed.{Deed}
use Rattle.kit_ground.specs.declared.place.Deed.TheVariants.{SawFree, Wrote, PostedTo}
use Rattle.kit_ground.specs.declared.place.Place.{Place}
use Rattle.kit_ground.specs.Memory.{with_word}
use Rattle.kit_ground.specs.Rules.{Keeps}
use Rattle.kit_ground.specs.Steps.{becomes, buffer_of}
use Rattle.kit_courier.specs.declared.view.CourierView.{CourierView}
use Rattle.kit_courier.specs.Couriers.{courier_rule}
use Rattle.kit_courier.specs.Deliveries.{view_after}
use Rattle.kit_courier.proofs.Keeping.{kept_aside}
use Rattle.kit_courier.proofs.LetterSteps.{letters_aside}

module _ (p : Place CourierView) where
  pub sees_free : (k : ℕ) → k < p.own.buffers → (buffer_of p.own.stock k).to_post ≡ 0 → Keeps courier_rule view_after p (Count p.own.number k) (λ count. SawFree k (count == 0))
  sees_free k lk none m places w =
      let count : ℕ = m (Count p.own.number k) in
      let deed : Deed = SawFree k (count == 0) in
      kept_aside p m places w (with_word m (Count p.own.number k) count) deed (λ j. refl) refl
      (letters_aside p m places w deed (lk, none, refl) (λ i x j c. c) refl refl)

  pub writes : (k x word : ℕ) → k < p.own.buffers → x < 2 → (buffer_of p.own.stock k).free ≡ true → Keeps courier_rule view_after p (Part p.own.number k x) (λ _. Wrote k x word)
  writes k x word lk lx free m places w =
      let deed : Deed = Wrote k x word in
      kept_aside p m places w (with_word m (Part p.own.number k x) word) deed (λ j. refl) refl
      (letters_aside p m places w deed (lk, lx, free) (λ i y j c. c) refl refl)

  pub posts : (k j : ℕ) → k < p.own.buffers → j < p.own.federates → bit_at (buffer_of p.own.stock k).to_post j ≡ 1 → Keeps courier_rule view_after p (Mail j p.own.number (k / 64)) (λ _. PostedTo k j)
  posts k j lk lj owed m places w =
      let deed : Deed = PostedTo k j in
      kept_aside p m places w (with_word m (Mail j p.own.number (k / 64)) (becomes deed (m (Mail j p.own.number (k / 64))))) deed (λ j. refl) refl
      (letters_aside p m places w deed (lk, lj, owed) (λ i y d c. c) refl refl)
