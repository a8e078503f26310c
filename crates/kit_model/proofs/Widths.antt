-- The greatest power of two that is not above a number.
use Rattle.std.proofs.Common.{◌≡◌, ℕ, zero, suc, ◌+◌, ◌*◌, ◌/◌, ◌^◌, ◌<◌, ◌≤◌, cond, inl, inr, arith, sym, subst}
use Rattle.std.proofs.Math.Nat.{pow-le-pow_right}
use Rattle.std.proofs.lemmas.Bool.{cases_lt, cases_order, lt-ltb, le-ltb}
use Rattle.std.proofs.lemmas.Nat.{pow-add, pow_pos}
use Rattle.kit_model.specs.Blocks.{halvings, stages, width}
use Rattle.kit_model.specs.BlockLaws.{WidthIsGreatest}

-- k is the exponent of the greatest power of two that is not above n
pub record IsExponent (k n : ℕ) : Type 0 where
  pub below : 2 ^ k ≤ n
  pub above : n < 2 ^ (k + 1)

halved : (h n : ℕ) → 2 ≤ n → IsExponent h (n / 2) → IsExponent (1 + h) n
halved h n big half =
    let one : 2 ^ (1 + h) ≡ 2 * 2 ^ h = pow-add 2 1 h in
    let two : 2 ^ (1 + h + 1) ≡ 2 * 2 ^ (h + 1) = subst (λ k. 2 ^ k ≡ 2 * 2 ^ (h + 1)) (omega arith) (pow-add 2 1 (h + 1)) in
    let below : 2 ^ h ≤ n / 2 = half.below in
    let above : n / 2 < 2 ^ (h + 1) = half.above in
    record { below = omega arith; above = omega arith }

halvings_are : (limit n : ℕ) → n ≤ limit → 1 ≤ n → IsExponent (halvings limit n) n
halvings_are zero n le one = absurd (omega arith)
halvings_are (suc limit) n le one =
    elim (cases_lt n 2) [
      | inl lt ↦ subst (λ b. IsExponent (cond b 0 (1 + halvings limit (n / 2))) n) (sym (lt-ltb n 2 lt)) (record { below = omega arith; above = omega arith })
      | inr ge ↦
          subst (λ b. IsExponent (cond b 0 (1 + halvings limit (n / 2))) n) (sym (le-ltb n 2 ge))
          (halved (halvings limit (n / 2)) n ge (halvings_are limit (n / 2) (omega arith) (omega arith)))
    ]

pub stages_are : (n : ℕ) → 1 ≤ n → IsExponent (stages n) n
unfolding stages
stages_are n one = halvings_are n n (omega arith) one

-- there is one exponent
pub one_exponent : (j k n : ℕ) → IsExponent j n → IsExponent k n → j ≡ k
one_exponent j k n a b =
    elim (cases_order j k) [
      | inl e ↦ e
      | inr (inl lt) ↦ absurd (omega (arith, apart j k lt, a.above, b.below))
      | inr (inr lt) ↦ absurd (omega (arith, apart k j lt, b.above, a.below))
    ]
  where
    apart : (i l : ℕ) → i < l → 2 ^ (i + 1) ≤ 2 ^ l
    apart i l lt = pow-le-pow_right (omega arith) (omega arith)

pub stages_only : (k n : ℕ) → 2 ^ k ≤ n → n < 2 ^ (k + 1) → stages n ≡ k
stages_only k n below above =
    let here : IsExponent k n = record { below = below; above = above } in
    one_exponent (stages n) k n (stages_are n (omega (arith, pow_pos k))) here

pub width_is_greatest : WidthIsGreatest
width_is_greatest n one =
    let is = stages_are n one in
    let next : 2 ^ (stages n + 1) ≡ 2 ^ stages n * 2 = pow-add 2 (stages n) 1 in
    (is.below, omega (arith, is.above))

-- a federate below the width is there
pub there_is : (n x : ℕ) → 1 ≤ n → x < width n → x < n
there_is n x one within = let greatest = width_is_greatest n one in omega (arith, greatest.0)
