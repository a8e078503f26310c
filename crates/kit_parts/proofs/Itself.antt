-- A federate is no receiver of its own messages.
use Rattle.std.proofs.Common.{◌≡◌, ℕ, inl, inr, ◌-◌, ◌*◌, ◌/◌, ◌%◌, ◌^◌, ◌<◌, Bool, false, cond, arith, sym, subst}
use Rattle.std.proofs.Math.Nat.{div-eq-sub-div}
use Rattle.std.proofs.Math.Pow.{pow_pos}
use Rattle.std.proofs.lemmas.Nat.{div_below}
use Rattle.std.proofs.lemmas.Bool.{cases_Bool, cases_lt, eqb-true, ne_eqb, and_right}
use Rattle.kit_rules.specs.Parts.{group_at}
use Rattle.kit_rules.specs.Delivery.{has_bit, without_bit, is_transported, receivers_of}
use Rattle.kit_parts.specs.Laws.{NobodySendsToItself}

-- one less is even where a quotient was odd
even_after : (n b : ℕ) → 0 < b → n / b % 2 ≡ 1 → (n - b) / b % 2 ≡ 0
even_after n b pos odd =
    elim (cases_lt n b) [
      | inl lt ↦ absurd (let l : n < 1 * b = (let k : n < b = lt in omega arith) in let z = div_below n b 1 pos l in omega arith)
      | inr ge ↦ (let e = div-eq-sub-div pos ge in omega arith)
    ]

-- a mask without a federate does not have its bit
without_it : (mask i : ℕ) → has_bit (without_bit mask i) i ≡ false
without_it mask i =
    elim (cases_Bool (has_bit mask i)) [
      | inl t ↦ (let odd : mask / 2 ^ i % 2 ≡ 1 = eqb-true (mask / 2 ^ i % 2) 1 t in
          let even = even_after mask (2 ^ i) (pow_pos i) odd in
          let P : Bool → Type 0 = λ b. has_bit (cond b (mask - 2 ^ i) mask) i ≡ false in
          subst P (sym t) (ne_eqb ((mask - 2 ^ i) / 2 ^ i % 2) 1 (λ e. omega arith)))
      | inr f ↦ (let P : Bool → Type 0 = λ b. has_bit (cond b (mask - 2 ^ i) mask) i ≡ false in subst P (sym f) f)
    ]

pub nobody_sends_to_itself_law : NobodySendsToItself
nobody_sends_to_itself_law p i m e =
    let P : ℕ → Type 0 = λ k. has_bit (receivers_of p k m.group) i ≡ false in
    and_right (is_transported p m) (has_bit (receivers_of p m.sender m.group) i) (subst P (sym e) (without_it (group_at p m.group).members i))
