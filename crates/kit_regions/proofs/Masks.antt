-- The bits of a mask.
use Rattle.std.proofs.Common.{◌≡◌, ℕ, zero, suc, inl, inr, ◌+◌, ◌-◌, ◌*◌, ◌/◌, ◌%◌, ◌^◌, ◌<◌, ◌≤◌, Bool, true, false, ◌&&◌, not, nat_eq, arith, refl, sym, ap, subst, ◌∙◌, cond}
use native.Mathlib.Nat.{pow-suc, suc-mul}
use Rattle.std.proofs.Math.Nat.{mod-lt}
use Rattle.std.proofs.lemmas.Nat.{shr_split, pow_pos}
use Rattle.std.specs.Int.{bit_at}
use Rattle.std.specs.List.{list_any, range_with_len}
use Rattle.std.proofs.lemmas.Bool.{cases_lt, cases_eq, eqb-true, eqb-false, ne_eqb, eq-eqb, or_parts, or_from, true≢false}
use Rattle.std.proofs.lemmas.Nat.Bits.{bit_at-lt, bit_at-suc, bit_at-zero, bit_at_lowest, bit_at_above, bit_at_cat_low, bit_at_cat_high, same_from_bits}
use Rattle.kit_rules.specs.Delivery.{has_bit, without_bit}
use Rattle.kit_regions.specs.Overlap.{mask_where}

pub mask_small : (t : ℕ → Bool) (n : ℕ) → mask_where t n < 2 ^ n
mask_small t zero = omega arith
mask_small t (suc n) =
    let m : ℕ = mask_where t n in
    let h : m < 2 ^ n = mask_small t n in
    let p : 2 ^ suc n ≡ 2 ^ n * 2 = pow-suc 2 n in
    elim (t n) as (λ b. cond b (m + 2 ^ n) m < 2 ^ suc n) [ true ↦ omega arith | false ↦ omega arith ]

-- a new highest bit leaves those below it
pub bit_below_new : (m n j : ℕ) → j < n → bit_at (m + 2 ^ n) j ≡ bit_at m j
bit_below_new m n j lt = let e : m + 2 ^ n ≡ 1 * 2 ^ n + m = omega arith in ap (λ x. bit_at x j) e ∙ bit_at_cat_low 1 n m j lt

-- and is there
pub bit_new : (m n : ℕ) → m < 2 ^ n → bit_at (m + 2 ^ n) n ≡ 1
bit_new m n small =
    let e : m + 2 ^ n ≡ 1 * 2 ^ n + m = omega arith in
    let z : n - n ≡ 0 = omega arith in
    ap (λ x. bit_at x n) e ∙ bit_at_cat_high 1 n m n small (omega arith) ∙ ap (bit_at 1) z

one_or_none : (x : ℕ) → x ≡ 0 → nat_eq x 1 ≡ false
one_or_none x e = ap (λ y. nat_eq y 1) e

pub has_none_above : (m n j : ℕ) → m < 2 ^ n → n ≤ j → has_bit m j ≡ false
has_none_above m n j small le = one_or_none (bit_at m j) (bit_at_above m n j small le)

newest : (t : ℕ → Bool) (n : ℕ) (b : Bool) → has_bit (cond b (mask_where t n + 2 ^ n) (mask_where t n)) n ≡ b
newest t n true = ap (λ x. nat_eq x 1) (bit_new (mask_where t n) n (mask_small t n))
newest t n false = has_none_above (mask_where t n) n n (mask_small t n) (omega arith)

older : (m n j : ℕ) (b : Bool) → j < n → has_bit (cond b (m + 2 ^ n) m) j ≡ has_bit m j
older m n j true lt = ap (λ x. nat_eq x 1) (bit_below_new m n j lt)
older m n j false lt = refl

-- bit j stands exactly where j passes the test
pub has_bit_where : (t : ℕ → Bool) (n j : ℕ) → j < n → has_bit (mask_where t n) j ≡ t j
has_bit_where t zero j lt = absurd (omega arith)
has_bit_where t (suc n) j lt = elim (cases_lt j n) [
  | inl below ↦ older (mask_where t n) n j (t n) below ∙ has_bit_where t n j below
  | inr above ↦ (let same : n ≡ j = omega arith in
      ap (has_bit (mask_where t (suc n))) (sym same) ∙ newest t n (t n) ∙ ap t same)
]

-- where none passes from n on, this is so of all
pub has_bit_passes : (t : ℕ → Bool) (n j : ℕ) → (n ≤ j → t j ≡ false) → has_bit (mask_where t n) j ≡ t j
has_bit_passes t n j none = elim (cases_lt j n) [
  | inl lt ↦ has_bit_where t n j lt
  | inr ge ↦ has_none_above (mask_where t n) n j (mask_small t n) ge ∙ sym (none ge)
]

-- where none passes from n on, the mask of more is no larger
pub mask_no_more : (t : ℕ → Bool) (n k : ℕ) → ((j : ℕ) → n ≤ j → t j ≡ false) → mask_where t (n + k) ≡ mask_where t n
mask_no_more t n zero none = ap (mask_where t) (let e : n + 0 ≡ n = omega arith in e)
mask_no_more t n (suc k) none =
    let e : n + suc k ≡ suc (n + k) = omega arith in
    ap (mask_where t) e ∙ ap (λ b. cond b (mask_where t (n + k) + 2 ^ (n + k)) (mask_where t (n + k))) (none (n + k) (omega arith)) ∙ mask_no_more t n k none

pub mask_within : (t : ℕ → Bool) (n most : ℕ) → n ≤ most → ((j : ℕ) → n ≤ j → t j ≡ false) → mask_where t most < 2 ^ n
mask_within t n most le none =
    let e : most ≡ n + (most - n) = omega arith in
    let same : mask_where t most ≡ mask_where t n = ap (mask_where t) e ∙ mask_no_more t n (most - n) none in
    let small : mask_where t n < 2 ^ n = mask_small t n in
    omega arith

-- the bits of a mask without its bit s
halves : (q i : ℕ) → q % 2 ≡ 1 → bit_at (q - 1) (suc i) ≡ bit_at q (suc i)
halves q i odd =
    let e : (q - 1) / 2 ≡ q / 2 = omega arith in
    bit_at-suc (q - 1) i ∙ ap (λ x. bit_at x i) e ∙ sym (bit_at-suc q i)

odd_is_some : (q : ℕ) → q % 2 ≡ 1 → (k : ℕ) × (q ≡ suc k)
odd_is_some zero odd = absurd (omega arith)
odd_is_some (suc k) odd = (k, refl)

-- what is left of a mask with bit s, when bit s is taken out
left_of : (q r w : ℕ) → q % 2 ≡ 1 → (q * w + r) - w ≡ (q - 1) * w + r
left_of q r w odd =
    let k = odd_is_some q odd in
    let P : ℕ → Type 0 = λ x. (x * w + r) - w ≡ (x - 1) * w + r in
    let m : ℕ = k.0 * w in
    let more : suc k.0 * w ≡ m + w = suc-mul k.0 w in
    let less : (suc k.0 - 1) * w ≡ m = ap (λ x. x * w) (let e : suc k.0 - 1 ≡ k.0 = omega arith in e) in
    subst P (sym k.1) (omega (arith, more, less))

rest_bit : (q r s j : ℕ) → r < 2 ^ s → q % 2 ≡ 1 → (j ≡ s → ⊥) → bit_at ((q - 1) * 2 ^ s + r) j ≡ bit_at (q * 2 ^ s + r) j
rest_bit q r s j small odd apart = elim (cases_lt j s) [
  | inl lt ↦ bit_at_cat_low (q - 1) s r j lt ∙ sym (bit_at_cat_low q s r j lt)
  | inr ge ↦ (let i : ℕ = j - (s + 1) in
      let e : j - s ≡ suc i = let ne : (j ≡ s → ⊥) = apart in omega arith in
      bit_at_cat_high (q - 1) s r j small ge ∙ ap (bit_at (q - 1)) e ∙ halves q i odd ∙ sym (ap (bit_at q) e) ∙ sym (bit_at_cat_high q s r j small ge))
]

gone_bit : (q r s : ℕ) → r < 2 ^ s → q % 2 ≡ 1 → bit_at ((q - 1) * 2 ^ s + r) s ≡ 0
gone_bit q r s small odd =
    let z : s - s ≡ 0 = omega arith in
    let even : (q - 1) % 2 ≡ 0 = omega arith in
    bit_at_cat_high (q - 1) s r s small (omega arith) ∙ ap (bit_at (q - 1)) z ∙ bit_at_lowest (q - 1) ∙ even

-- the mask without its bit s, by halves
taken : (m s : ℕ) → bit_at m s ≡ 1 → m - 2 ^ s ≡ (m / 2 ^ s - 1) * 2 ^ s + m % 2 ^ s
taken m s odd = ap (λ x. x - 2 ^ s) (sym (shr_split m s)) ∙ left_of (m / 2 ^ s) (m % 2 ^ s) (2 ^ s) odd

taken_other : (m s j : ℕ) → bit_at m s ≡ 1 → (j ≡ s → ⊥) → bit_at (m - 2 ^ s) j ≡ bit_at m j
taken_other m s j odd apart =
    let small : m % 2 ^ s < 2 ^ s = mod-lt m (pow_pos s) in
    ap (λ x. bit_at x j) (taken m s odd) ∙ rest_bit (m / 2 ^ s) (m % 2 ^ s) s j small odd apart ∙ ap (λ x. bit_at x j) (shr_split m s)

taken_same : (m s : ℕ) → bit_at m s ≡ 1 → bit_at (m - 2 ^ s) s ≡ 0
taken_same m s odd = ap (λ x. bit_at x s) (taken m s odd) ∙ gone_bit (m / 2 ^ s) (m % 2 ^ s) s (mod-lt m (pow_pos s)) odd

bit_left : (m s j : ℕ) (b : Bool) → has_bit m s ≡ b → has_bit (cond b (m - 2 ^ s) m) j ≡ (not (nat_eq j s) && has_bit m j)
bit_left m s j true e = elim (cases_eq j s) [
  | inl same ↦ (let t : has_bit (m - 2 ^ s) s ≡ false = one_or_none (bit_at (m - 2 ^ s) s) (taken_same m s (eqb-true (bit_at m s) 1 e)) in
      ap (has_bit (m - 2 ^ s)) same ∙ t ∙ sym (ap (λ b. not b && has_bit m j) (eq-eqb j s same)))
  | inr apart ↦ ap (λ x. nat_eq x 1) (taken_other m s j (eqb-true (bit_at m s) 1 e) apart) ∙ sym (ap (λ b. not b && has_bit m j) (ne_eqb j s apart))
]
bit_left m s j false e = elim (cases_eq j s) [
  | inl same ↦ ap (has_bit m) same ∙ e ∙ sym (ap (λ b. not b && has_bit m j) (eq-eqb j s same))
  | inr apart ↦ sym (ap (λ b. not b && has_bit m j) (ne_eqb j s apart))
]

pub has_bit_without : (m s j : ℕ) → has_bit (without_bit m s) j ≡ (not (nat_eq j s) && has_bit m j)
has_bit_without m s j = bit_left m s j (has_bit m s) refl

-- a mask whose bits are all below n is 0 exactly where it has none of these
no_bits : (m n : ℕ) → ((j : ℕ) → n ≤ j → has_bit m j ≡ false) → ((j : ℕ) → j < n → has_bit m j ≡ false) → m ≡ 0
no_bits m n far near = same_from_bits m 0 (λ i.
    let none : has_bit m i ≡ false = elim (cases_lt i n) [ inl lt ↦ near i lt | inr ge ↦ far i ge ] in
    let small : bit_at m i < 2 = bit_at-lt m i in
    let ne : (bit_at m i ≡ 1 → ⊥) = eqb-false (bit_at m i) 1 none in
    let zero_bit : bit_at m i ≡ 0 = omega arith in
    zero_bit ∙ sym (bit_at-zero i))

any_none : (p : ℕ → Bool) (a n j : ℕ) → list_any p (range_with_len a n) ≡ false → a ≤ j → j < a + n → p j ≡ false
any_none p a zero j e le lt = absurd (omega arith)
any_none p a (suc n) j e le lt =
    let two = or_parts (p a) (list_any p (range_with_len (a + 1) n)) e in
    elim (cases_eq a j) [
      | inl same ↦ ap p (sym same) ∙ two.0
      | inr apart ↦ any_none p (a + 1) n j two.1 (omega arith) (omega arith)
    ]

any_of_none : (p : ℕ → Bool) (a n : ℕ) → ((j : ℕ) → p j ≡ false) → list_any p (range_with_len a n) ≡ false
any_of_none p a zero none = refl
any_of_none p a (suc n) none = or_from (p a) (list_any p (range_with_len (a + 1) n)) (none a) (any_of_none p (a + 1) n none)

pub not_zero_is_any : (m n : ℕ) → ((j : ℕ) → n ≤ j → has_bit m j ≡ false) → not (nat_eq m 0) ≡ list_any (has_bit m) (range_with_len 0 n)
not_zero_is_any m n far = by_any (list_any (has_bit m) (range_with_len 0 n)) refl where
  by_any : (b : Bool) → list_any (has_bit m) (range_with_len 0 n) ≡ b → not (nat_eq m 0) ≡ list_any (has_bit m) (range_with_len 0 n)
  by_any false e =
      let z : m ≡ 0 = no_bits m n far (λ j lt. any_none (has_bit m) 0 n j e (omega arith) (omega arith)) in
      ap not (eq-eqb m 0 z) ∙ sym e
  by_any true e =
      let ne : (m ≡ 0 → ⊥) = λ z. true≢false (sym e ∙ ap (λ x. list_any (has_bit x) (range_with_len 0 n)) z ∙ any_of_none (has_bit 0) 0 n (λ j. one_or_none (bit_at 0 j) (bit_at-zero j))) in
      ap not (ne_eqb m 0 ne) ∙ sym e
