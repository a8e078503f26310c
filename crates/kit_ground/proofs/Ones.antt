-- How many bits of a mask are set, as a sum.
use Rattle.std.proofs.Common.{◌≡◌, ℕ, zero, suc, ◌+◌, ◌*◌, ◌/◌, ◌%◌, ◌^◌, ◌<◌, refl, sym, ap, ◌∙◌, subst, arith, div-add-mod'}
use Rattle.std.proofs.Math.Nat.{mod-lt, div-lt_iff_lt-mul, pow-succ'}
use Rattle.std.proofs.lemmas.Nat.{ones_cat, pow_pos}
use Rattle.std.proofs.lemmas.Nat.Bits.{bit_at_cat_low}
use Rattle.std.specs.Int.{bit_at}
use Rattle.std.specs.Int.Count.{ones}
use Rattle.kit_ground.specs.Sets.{sum_to}
use Rattle.kit_ground.proofs.Sums.{sum_same}

ones_bit : (a : ℕ) → a < 2 → ones a ≡ a % 2
unfolding ones
ones_bit zero lt = refl
ones_bit (suc zero) lt = refl
ones_bit (suc (suc a)) lt = absurd (omega arith)

pub ones_sum : (n m : ℕ) → m < 2 ^ n → sum_to (λ j. bit_at m j) n ≡ ones m
unfolding ones
ones_sum zero m lt = let z : 0 ≡ m = omega arith in ap ones z
ones_sum (suc n) m lt =
    let a : ℕ = m / 2 ^ n in
    let r : ℕ = m % 2 ^ n in
    let whole : a * 2 ^ n + r ≡ m = div-add-mod' m (2 ^ n) in
    let low : r < 2 ^ n = mod-lt m (pow_pos n) in
    let high : a < 2 = (div-lt_iff_lt-mul (pow_pos n)).1 (subst (λ (x : ℕ). m < x) (pow-succ' 2 n) lt) in
    let parts = ones_cat n a r low in
    let bits : sum_to (λ j. bit_at m j) n ≡ sum_to (λ j. bit_at r j) n = sum_same (λ j. bit_at m j) (λ j. bit_at r j) n (λ j lj. ap (λ (x : ℕ). bit_at x j) (sym whole) ∙ bit_at_cat_low a n r j lj) in
    let rest = ones_sum n r low in
    let top : ones a ≡ bit_at m n = ones_bit a high in
    let all : ones m ≡ ones a + ones r = ap ones (sym whole) ∙ parts in
    omega arith
