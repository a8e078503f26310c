-- One bit of a mask.
use Rattle.std.proofs.Common.{◌≡◌, ◌≢◌, ℕ, ◌+◌, ◌*◌, ◌/◌, ◌%◌, ◌^◌, ◌<◌, ◌≤◌, max, sym, ap, ◌∙◌, subst, arith, div-add-mod'}
use Rattle.std.proofs.Math.Nat.{mod-lt}
use Rattle.std.proofs.lemmas.Bool.{cases_lt}
use Rattle.std.proofs.lemmas.Nat.{pow_pos}
use Rattle.std.proofs.lemmas.Nat.Bits.{bit_at-lt, bit_at-zero, bit_at_above, bit_at_cat_low, bit_at_or, bit_at_xor, bit_at-pow_same, bit_at-pow_other, same_from_bits, same_from_bits_below}
use Rattle.std.specs.Prelude.{bit_or, bit_xor}
use Rattle.std.specs.Int.{bit_at}
use mathlib.Core.Logic.{⊎_elim}

pub flipped_else : (m j x : ℕ) → x ≢ j → bit_at (bit_xor m (2 ^ j)) x ≡ bit_at m x
flipped_else m j x apart =
    let u : ℕ = bit_at m x in
    let v : ℕ = bit_at (2 ^ j) x in
    let a : bit_at (bit_xor m (2 ^ j)) x ≡ (u + v) % 2 = bit_at_xor m (2 ^ j) x in
    let z : v ≡ 0 = bit_at-pow_other j x apart in
    let l : u < 2 = bit_at-lt m x in
    omega arith

pub flipped_here : (m j : ℕ) → bit_at m j ≡ 1 → bit_at (bit_xor m (2 ^ j)) j ≡ 0
flipped_here m j e =
    let u : ℕ = bit_at m j in
    let v : ℕ = bit_at (2 ^ j) j in
    let a : bit_at (bit_xor m (2 ^ j)) j ≡ (u + v) % 2 = bit_at_xor m (2 ^ j) j in
    let z : v ≡ 1 = bit_at-pow_same j in
    let is : u ≡ 1 = e in
    omega arith

pub joined_else : (m k x : ℕ) → x ≢ k → bit_at (bit_or m (2 ^ k)) x ≡ bit_at m x
joined_else m k x apart =
    let u : ℕ = bit_at m x in
    let v : ℕ = bit_at (2 ^ k) x in
    let a : bit_at (bit_or m (2 ^ k)) x ≡ max u v = bit_at_or m (2 ^ k) x in
    let z : v ≡ 0 = bit_at-pow_other k x apart in
    omega arith

pub joined_here : (m k : ℕ) → bit_at (bit_or m (2 ^ k)) k ≡ 1
joined_here m k =
    let u : ℕ = bit_at m k in
    let v : ℕ = bit_at (2 ^ k) k in
    let a : bit_at (bit_or m (2 ^ k)) k ≡ max u v = bit_at_or m (2 ^ k) k in
    let z : v ≡ 1 = bit_at-pow_same k in
    let l : u < 2 = bit_at-lt m k in
    omega arith

-- a number with no bit from b on is below 2 ^ b
pub below_by_bits : (a b : ℕ) → ((i : ℕ) → b ≤ i → bit_at a i ≡ 0) → a < 2 ^ b
below_by_bits a b none =
    let low : ℕ = a % 2 ^ b in
    let small : low < 2 ^ b = mod-lt a (pow_pos b) in
    let whole : (a / 2 ^ b) * 2 ^ b + low ≡ a = div-add-mod' a (2 ^ b) in
    let same : a ≡ low = same_from_bits a low (λ i. ⊎_elim
    (λ (lt : i < b). ap (λ (x : ℕ). bit_at x i) (sym whole) ∙ bit_at_cat_low (a / 2 ^ b) b low i lt)
    (λ (le : b ≤ i). none i le ∙ sym (bit_at_above low b i small le))
    (cases_lt i b)) in
    subst (λ (x : ℕ). x < 2 ^ b) (sym same) small

-- a number below 2 ^ b with no bit below b is 0
pub none_by_bits : (a b : ℕ) → a < 2 ^ b → ((i : ℕ) → i < b → bit_at a i ≡ 0) → a ≡ 0
none_by_bits a b small none = same_from_bits_below b a 0 small (pow_pos b) (λ i li. none i li ∙ sym (bit_at-zero i))

-- numbers whose bits are the same are one
pub xor_zero : (a b : ℕ) → bit_xor a b ≡ 0 → a ≡ b
xor_zero a b e = same_from_bits a b (λ i.
    let x : ℕ = bit_at a i in
    let y : ℕ = bit_at b i in
    let s : (x + y) % 2 ≡ 0 = sym (bit_at_xor a b i) ∙ (ap (λ (n : ℕ). bit_at n i) e ∙ bit_at-zero i) in
    let lx : x < 2 = bit_at-lt a i in
    let ly : y < 2 = bit_at-lt b i in
    let same : x ≡ y = omega arith in
    same)
