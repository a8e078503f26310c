-- Masks of senders.
use Rattle.std.proofs.Common.{◌≡◌, ℕ, zero, suc, inl, inr, ◌<◌, ◌^◌, ◌%◌, get_or, replicate, List, max, Bool, true, false, ◌||◌, nat_eq, bit_or, arith, refl, sym, subst, ap, ◌∙◌}
use Rattle.std.specs.Int.{bit_at}
use Rattle.std.proofs.Math.Nat.{zero-div}
use Rattle.std.proofs.lemmas.Bool.{eq-eqb}
use Rattle.std.proofs.lemmas.Bool.Decides.{eqb_tells}
use Rattle.std.proofs.lemmas.Nat.Bits.{bit_at-lt, bit_at_or, bit_at-pow_same, bit_at-pow_other}
use Rattle.kit_rules.specs.Delivery.{has_bit}

-- or with true
or_true : (b : Bool) → (b || true) ≡ true
or_true true = refl
or_true false = refl

-- or with false
or_false : (b : Bool) → (b || false) ≡ b
or_false true = refl
or_false false = refl

-- a mask with one more bit
pub one_more_bit : (mask s k : ℕ) → has_bit (bit_or mask (2 ^ s)) k ≡ (has_bit mask k || nat_eq s k)
one_more_bit mask s k =
    let a = bit_at mask k in
    let few : a < 2 = bit_at-lt mask k in
    ap (λ (n : ℕ). nat_eq n 1) (bit_at_or mask (2 ^ s) k) ∙ elim (eqb_tells s k) [
      | inl same ↦ (let P : ℕ → Type 0 = λ k. bit_at (2 ^ s) k ≡ 1 in
          let one : bit_at (2 ^ s) k ≡ 1 = subst P same.1 (bit_at-pow_same s) in
          eq-eqb (max a (bit_at (2 ^ s) k)) 1 (omega arith) ∙ sym (ap (λ b. has_bit mask k || b) same.0 ∙ or_true (has_bit mask k)))
      | inr other ↦ (let none : bit_at (2 ^ s) k ≡ 0 = bit_at-pow_other s k (λ e. other.1 (sym e)) in
          ap (λ (n : ℕ). nat_eq n 1) (let e : max a (bit_at (2 ^ s) k) ≡ a = omega arith in e) ∙ sym (ap (λ b. has_bit mask k || b) other.0 ∙ or_false (has_bit mask k)))
    ]

-- masks of no sender
abbrev pub zeros_of : ℕ → List ℕ
zeros_of n = replicate n 0

-- each of them is 0
zeros : (n k : ℕ) → get_or (zeros_of n) k 0 ≡ 0
zeros zero k = refl
zeros (suc n) zero = refl
zeros (suc n) (suc k) = zeros n k

-- at first no bit is set
pub none_seen : (n sender number : ℕ) → has_bit (get_or (zeros_of n) number 0) sender ≡ false
none_seen n sender number = ap (λ (m : ℕ). has_bit m sender) (zeros n number) ∙ ap (λ (m : ℕ). nat_eq (m % 2) 1) (zero-div (2 ^ sender))
