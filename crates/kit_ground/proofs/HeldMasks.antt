-- The masks of the buffers that a seat holds, after a collect and after a release.
use Rattle.std.proofs.Common.{◌≡◌, ◌≢◌, ℕ, ◌^◌, ◌<◌, max, List, length, sym, ap, ◌∙◌, arith, get_or-set_same, get_or-set_other}
use Rattle.std.proofs.lemmas.Nat.Bits.{bit_at-lt, bit_at_or}
use Rattle.std.specs.Prelude.{bit_or, bit_xor, slice_index, slice_set}
use Rattle.std.specs.Int.{bit_at}
use mathlib.Core.Logic.{dite}
use native.Mathlib.Decide.{ℕ_discrete}
use Rattle.kit_ground.proofs.Bits.{flipped_else}

-- what is held stays held where more is collected
pub held_more : (holds : List ℕ) (from mail i k : ℕ) → i < length holds → bit_at (slice_index holds i) k ≡ 1 → bit_at (slice_index (slice_set holds from (bit_or (slice_index holds from) mail)) i) k ≡ 1
held_more holds from mail i k li held = dite (ℕ_discrete i from)
    (λ same.
    let is : slice_index (slice_set holds from (bit_or (slice_index holds from) mail)) i ≡ bit_or (slice_index holds i) mail =
    (λ t. slice_index (slice_set holds (sym same t) (bit_or (slice_index holds (sym same t)) mail)) i) ∙ get_or-set_same holds i (bit_or (slice_index holds i) mail) 0 li in
    let joins : bit_at (bit_or (slice_index holds i) mail) k ≡ max (bit_at (slice_index holds i) k) (bit_at mail k) = bit_at_or (slice_index holds i) mail k in
    let x : ℕ = bit_at (slice_index holds i) k in
    let y : ℕ = bit_at mail k in
    let small : y < 2 = bit_at-lt mail k in
    let one : x ≡ 1 = held in
    let most : max x y ≡ 1 = omega arith in
    ap (λ (v : ℕ). bit_at v k) is ∙ (joins ∙ most))
    (λ other. ap (λ (v : ℕ). bit_at v k) (get_or-set_other holds from i (bit_or (slice_index holds from) mail) 0 other) ∙ held)

-- another buffer stays held where one is released
pub held_less : (holds : List ℕ) (from buffer i k : ℕ) → i < length holds → (i ≡ from → k ≢ buffer) → bit_at (slice_index holds i) k ≡ 1
    → bit_at (slice_index (slice_set holds from (bit_xor (slice_index holds from) (2 ^ buffer))) i) k ≡ 1
held_less holds from buffer i k li apart held = dite (ℕ_discrete i from)
    (λ same.
    let is : slice_index (slice_set holds from (bit_xor (slice_index holds from) (2 ^ buffer))) i ≡ bit_xor (slice_index holds i) (2 ^ buffer) =
    (λ t. slice_index (slice_set holds (sym same t) (bit_xor (slice_index holds (sym same t)) (2 ^ buffer))) i) ∙ get_or-set_same holds i (bit_xor (slice_index holds i) (2 ^ buffer)) 0 li in
    ap (λ (v : ℕ). bit_at v k) is ∙ (flipped_else (slice_index holds i) buffer k (apart same) ∙ held))
    (λ other. ap (λ (v : ℕ). bit_at v k) (get_or-set_other holds from i (bit_xor (slice_index holds from) (2 ^ buffer)) 0 other) ∙ held)
