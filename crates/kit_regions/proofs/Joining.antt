-- One more subscription in a mask.
use Rattle.std.proofs.Common.{◌≡◌, ℕ, inl, inr, ◌+◌, ◌^◌, ◌<◌, max, Bool, true, false, ◌&&◌, ◌||◌, nat_eq, arith, refl, sym, ap, ◌∙◌, ◌*◌, ◌%◌, List, [], length, get_or, take}
use Rattle.std.specs.Prelude.{bit_or}
use Rattle.std.specs.Int.{bit_at}
use Rattle.std.specs.List.{All}
use Rattle.std.proofs.lemmas.Bool.{cases_eq, eqb-true, eqb-false, eq-eqb, ne_eqb, or_right}
use Rattle.std.proofs.lemmas.List.Folds.{list_any_more}
use Rattle.std.proofs.Math.Bool.{and-true, and-false, or-false}
use Rattle.std.proofs.lemmas.List.Elements.{All-take}
use Rattle.std.proofs.lemmas.Nat.{pow_below}
use Rattle.std.proofs.lemmas.Nat.Bits.{bit_at-lt, bit_at_or, bit_at-pow_same, bit_at-pow_other, same_from_bits}
use Rattle.kit_rules.specs.Delivery.{has_bit}
use Rattle.kit_regions.specs.declared.region.Update.{Update}
use Rattle.kit_regions.specs.declared.region.Subscription.{Subscription}
use Rattle.kit_regions.specs.Overlap.{is_near, is_reached, mask_of}
use Rattle.kit_regions.proofs.Receivers.{masks_are_subscribers_law}

one_bit : (x y : ℕ) → x < 2 → y < 2 → (b : Bool) → nat_eq x 1 ≡ b → nat_eq y 1 ≡ b → x ≡ y
one_bit x y lx ly true ex ey = let a : x ≡ 1 = eqb-true x 1 ex in let b : y ≡ 1 = eqb-true y 1 ey in omega arith
one_bit x y lx ly false ex ey = let a : (x ≡ 1 → ⊥) = eqb-false x 1 ex in let b : (y ≡ 1 → ⊥) = eqb-false y 1 ey in omega arith

-- masks with the same bits are one
same_masks : (a b : ℕ) → ((j : ℕ) → has_bit a j ≡ has_bit b j) → a ≡ b
same_masks a b h = same_from_bits a b (λ j. one_bit (bit_at a j) (bit_at b j) (bit_at-lt a j) (bit_at-lt b j) (has_bit b j) (h j) refl)

has_bit_or : (m k j : ℕ) → has_bit (bit_or m (2 ^ k)) j ≡ (has_bit m j || nat_eq k j)
has_bit_or m k j =
    let u : ℕ = bit_at m j in
    let v : ℕ = bit_at (2 ^ k) j in
    let small : u < 2 = bit_at-lt m j in
    let joins : bit_at (bit_or m (2 ^ k)) j ≡ max u v = bit_at_or m (2 ^ k) j in
    elim (cases_eq k j) [
      | inl same ↦ (let w : v ≡ 1 = ap (bit_at (2 ^ k)) (sym same) ∙ bit_at-pow_same k in
          let one : bit_at (bit_or m (2 ^ k)) j ≡ 1 = omega arith in
          ap (λ x. nat_eq x 1) one ∙ sym (or_right (has_bit m j) (nat_eq k j) (eq-eqb k j same)))
      | inr apart ↦ (let w : v ≡ 0 = bit_at-pow_other k j (λ e. apart (sym e)) in
          let as_before : bit_at (bit_or m (2 ^ k)) j ≡ u = omega arith in
          ap (λ x. nat_eq x 1) as_before ∙ sym (ap (λ b. has_bit m j || b) (ne_eqb k j apart) ∙ or-false (has_bit m j)))
    ]

-- of the first i and one more
first_few : (subs : List Subscription) (i : ℕ) → All (λ (s : Subscription). s.federate < 16) subs → All (λ (s : Subscription). s.federate < 16) (take i subs)
first_few subs i h = All-take (λ (s : Subscription). s.federate < 16) i subs h

bits_more : (subs : List Subscription) (u : Update) (i : ℕ) (d : Subscription) (j : ℕ) → All (λ (s : Subscription). s.federate < 16) subs → i < length subs
    → has_bit (mask_of (take (i + 1) subs) u) j ≡ (has_bit (mask_of (take i subs) u) j || is_reached u j (get_or subs i d))
bits_more subs u i d j h lt =
    masks_are_subscribers_law (take (i + 1) subs) u j (first_few subs (i + 1) h)
    ∙ list_any_more (is_reached u j) subs i d lt
    ∙ sym (ap (λ b. b || is_reached u j (get_or subs i d)) (masks_are_subscribers_law (take i subs) u j (first_few subs i h)))

pub mask_joins : (subs : List Subscription) (u : Update) (i : ℕ) (d : Subscription) → All (λ (s : Subscription). s.federate < 16) subs → i < length subs → is_near u (get_or subs i d) ≡ true
    → bit_or (mask_of (take i subs) u) (2 ^ (get_or subs i d).federate) ≡ mask_of (take (i + 1) subs) u
mask_joins subs u i d h lt near = same_masks _ _ (λ j.
    has_bit_or (mask_of (take i subs) u) (get_or subs i d).federate j
    ∙ sym (bits_more subs u i d j h lt ∙ ap (λ b. has_bit (mask_of (take i subs) u) j || (nat_eq (get_or subs i d).federate j && b)) near
    ∙ ap (λ b. has_bit (mask_of (take i subs) u) j || b) (and-true (nat_eq (get_or subs i d).federate j))))

pub mask_stays : (subs : List Subscription) (u : Update) (i : ℕ) (d : Subscription) → All (λ (s : Subscription). s.federate < 16) subs → i < length subs → is_near u (get_or subs i d) ≡ false
    → mask_of (take i subs) u ≡ mask_of (take (i + 1) subs) u
mask_stays subs u i d h lt far = same_masks _ _ (λ j.
    sym (bits_more subs u i d j h lt ∙ ap (λ b. has_bit (mask_of (take i subs) u) j || (nat_eq (get_or subs i d).federate j && b)) far
    ∙ ap (λ b. has_bit (mask_of (take i subs) u) j || b) (and-false (nat_eq (get_or subs i d).federate j)) ∙ or-false (has_bit (mask_of (take i subs) u) j)))

pub no_subscriptions : (u : Update) → mask_of [] u ≡ 0
unfolding mask_of
no_subscriptions u = refl

-- the bit of one of 16 federates
pub bit_of : (k : ℕ) → k < 16 → 1 * 2 ^ k % 65536 ≡ 2 ^ k
bit_of k lt = let w : ℕ = 2 ^ k in let below : w < 65536 = pow_below k 16 lt in let e : 1 * w % 65536 ≡ w = omega arith in e
