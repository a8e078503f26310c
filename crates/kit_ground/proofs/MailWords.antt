-- Mail words: which one a buffer goes by, and what its bits are among those of all buffers.
use Rattle.std.proofs.Common.{◌≡◌, ◌≢◌, ℕ, zero, suc, refl, ◌+◌, ◌-◌, ◌*◌, ◌/◌, ◌%◌, ◌^◌, ◌<◌, ◌≤◌, sym, ap, ◌∙◌, subst, arith}
use Rattle.std.proofs.lemmas.Bool.{cases_lt}
use Rattle.std.proofs.lemmas.Nat.{pow_pos}
use Rattle.std.proofs.lemmas.Nat.Bits.{bit_at-lt, bit_at-zero, bit_at_cat_high, bit_at_cat_low}
use Rattle.std.specs.Int.{bit_at}
use mathlib.Core.Logic.{⊎_elim}
use Rattle.kit_ground.specs.Layout.{mail_words}
use Rattle.kit_ground.specs.Steps.{mail_mask}
use Rattle.kit_ground.proofs.Bits.{below_by_bits}

pub mail_words_are : (b : ℕ) → mail_words b ≡ (b + 63) / 64
unfolding mail_words
mail_words_are b = (λ i. (b + 63) / 64)

-- the mail word of a buffer is there
pub word_there : (b k : ℕ) → k < b → k / 64 < mail_words b
word_there b k lk = subst (λ (x : ℕ). k / 64 < x) (sym (mail_words_are b)) (omega arith)

pub few_words : (b : ℕ) → b ≤ 1024 → mail_words b ≤ 16
few_words b small = subst (λ (x : ℕ). x ≤ 16) (sym (mail_words_are b)) (omega arith)

-- where there are buffers there is a first word
pub some_words : (b : ℕ) → 0 < b → 0 < mail_words b
some_words b some = subst (λ (x : ℕ). 0 < x) (sym (mail_words_are b)) (omega arith)

pub same_buffer : (x k : ℕ) → x / 64 ≡ k / 64 → x % 64 ≡ k % 64 → x ≡ k
same_buffer x k a c = omega arith

pub whole_buffer : (k : ℕ) → 64 * (k / 64) + k % 64 ≡ k
whole_buffer k = omega arith

pub word_of : (w c : ℕ) → c < 64 → (64 * w + c) / 64 ≡ w
word_of w c lc = omega arith

pub bit_of : (w c : ℕ) → c < 64 → (64 * w + c) % 64 ≡ c
bit_of w c lc = omega arith

-- the mask of a mail word has its bits where its buffers are
pub mask_here : (w mail c : ℕ) → bit_at (mail_mask w mail) (64 * w + c) ≡ bit_at mail c
mask_here w mail c =
    let whole : mail * 2 ^ (64 * w) ≡ mail * 2 ^ (64 * w) + 0 = omega arith in
    let back : (64 * w + c) - 64 * w ≡ c = omega arith in
    ap (λ (x : ℕ). bit_at x (64 * w + c)) whole ∙ (bit_at_cat_high mail (64 * w) 0 (64 * w + c) (pow_pos (64 * w)) (omega arith) ∙ ap (bit_at mail) back)

-- and no others
pub mask_else : (w mail x : ℕ) → ((c : ℕ) → bit_at mail c ≡ 1 → c < 64) → x / 64 ≢ w → bit_at (mail_mask w mail) x ≡ 0
mask_else w mail x narrow apart = ⊎_elim
    (λ (lt : x < 64 * w).
    let whole : mail * 2 ^ (64 * w) ≡ mail * 2 ^ (64 * w) + 0 = omega arith in
    ap (λ (y : ℕ). bit_at y x) whole ∙ (bit_at_cat_low mail (64 * w) 0 x lt ∙ bit_at-zero x))
    (λ (le : 64 * w ≤ x).
    let c : ℕ = x - 64 * w in
    let split : 64 * w + c ≡ x = omega arith in
    let high : 64 ≤ c = omega arith in
    let same : bit_at (mail_mask w mail) x ≡ bit_at mail c = ap (bit_at (mail_mask w mail)) (sym split) ∙ mask_here w mail c in
    same ∙ none c high)
    (cases_lt x (64 * w))
  where
    none : (c : ℕ) → 64 ≤ c → bit_at mail c ≡ 0
    none c high = ⊎_elim
        (λ (lt : bit_at mail c < 1). let y : ℕ = bit_at mail c in let l : y < 1 = lt in let z : y ≡ 0 = omega arith in z)
        (λ (le : 1 ≤ bit_at mail c). let y : ℕ = bit_at mail c in let two : y < 2 = bit_at-lt mail c in let l : 1 ≤ y = le in let one : y ≡ 1 = omega arith in let small = narrow c one in absurd (omega arith))
        (cases_lt (bit_at mail c) 1)

-- so it is a mask of buffers that there are, where the mail is of such
pub mask_below : (w mail b : ℕ) → ((c : ℕ) → bit_at mail c ≡ 1 → (c < 64) × (64 * w + c < b)) → mail_mask w mail < 2 ^ b
mask_below w mail b within = below_by_bits (mail_mask w mail) b (λ x above. no_bit (bit_at (mail_mask w mail) x) (bit_at-lt (mail_mask w mail) x) (λ on. ⊎_elim
    (λ (lt : x < 64 * w). let z : bit_at (mail_mask w mail) x ≡ 0 = mask_else w mail x (λ c set. (within c set).0) (omega arith) in apart (bit_at (mail_mask w mail) x) z on)
    (λ (le : 64 * w ≤ x).
    let c : ℕ = x - 64 * w in
    let split : 64 * w + c ≡ x = omega arith in
    let set : bit_at mail c ≡ 1 = sym (mask_here w mail c) ∙ (ap (bit_at (mail_mask w mail)) split ∙ on) in
    let inside = (within c set).1 in
    absurd (omega arith))
    (cases_lt x (64 * w))))
  where
    apart : (y : ℕ) → y ≡ 0 → y ≡ 1 → ⊥
    apart y none one = omega arith

    no_bit : (y : ℕ) → y < 2 → (y ≡ 1 → ⊥) → y ≡ 0
    no_bit zero lt not = refl
    no_bit (suc zero) lt not = absurd (not refl)
    no_bit (suc (suc y)) lt not = absurd (omega arith)
