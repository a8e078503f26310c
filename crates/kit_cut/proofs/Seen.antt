-- Which numbers of which senders were seen, as bits.
use Rattle.std.proofs.Common.{◌≡◌, ℕ, zero, suc, inl, inr, ◌+◌, ◌<◌, ◌^◌, ◌%◌, max, Bool, true, false, ◌&&◌, ◌||◌, List, [], ◌∷◌, length, take, get_or, replicate, nat_eq, bit_or, arith, refl, sym, subst, ap, ◌∙◌}
use Rattle.std.specs.Int.{bit_at}
use Rattle.std.specs.List.{AllPairs, list_any}
use Rattle.std.proofs.lemmas.Bool.{and_parts, and_from, cases_lt, eq-eqb, eqb-true, or_cases}
use Rattle.std.proofs.lemmas.List.{get_or_default}
use Rattle.std.proofs.lemmas.Bool.Decides.{eqb_tells}
use Rattle.std.proofs.lemmas.Nat.Bits.{bit_at-lt, bit_at_or, bit_at-pow_same, bit_at-pow_other}
use Rattle.std.proofs.Math.Nat.{zero-div}
use Rattle.kit_base.specs.declared.message.Message.{Message}
use Rattle.kit_rules.specs.Delivery.{has_bit}
use Rattle.kit_cut.specs.ValidCuts.{NumbersDiffer}
use Rattle.kit_cut.proofs.Sound.{zeros}

or_true : (b : Bool) → (b || true) ≡ true
or_true true = refl
or_true false = refl

or_false : (b : Bool) → (b || false) ≡ b
or_false true = refl
or_false false = refl

-- a mask with one more bit
pub bit_added : (mask s k : ℕ) → has_bit (bit_or mask (2 ^ s)) k ≡ (has_bit mask k || nat_eq k s)
bit_added mask s k =
    let a = bit_at mask k in
    let few : a < 2 = bit_at-lt mask k in
    ap (λ (n : ℕ). nat_eq n 1) (bit_at_or mask (2 ^ s) k) ∙ elim (eqb_tells k s) [
      | inl same ↦ (let P : ℕ → Type 0 = λ k. bit_at (2 ^ s) k ≡ 1 in
          let one : bit_at (2 ^ s) k ≡ 1 = subst P (sym same.1) (bit_at-pow_same s) in
          eq-eqb (max a (bit_at (2 ^ s) k)) 1 (omega arith) ∙ sym (ap (λ b. has_bit mask k || b) same.0 ∙ or_true (has_bit mask k)))
      | inr other ↦ (let none : bit_at (2 ^ s) k ≡ 0 = bit_at-pow_other s k other.1 in
          ap (λ (n : ℕ). nat_eq n 1) (let e : max a (bit_at (2 ^ s) k) ≡ a = omega arith in e) ∙ sym (ap (λ b. has_bit mask k || b) other.0 ∙ or_false (has_bit mask k)))
    ]

-- whether a message has this number of this sender
abbrev pub has_number : ℕ → ℕ → Message → Bool
has_number number sender m = nat_eq number m.number && nat_eq sender m.sender

-- at first nothing was seen
pub none_seen : (n number sender : ℕ) → has_bit (get_or (replicate n 0) number 0) sender ≡ false
none_seen n number sender = ap (λ (m : ℕ). has_bit m sender) (zeros n number) ∙ ap (λ (m : ℕ). nat_eq (m % 2) 1) (zero-div (2 ^ sender))

-- one more of a list is looked at
pub any_more : (test : Message → Bool) (xs : List Message) (i : ℕ) (d : Message) → i < length xs → list_any test (take (suc i) xs) ≡ (list_any test (take i xs) || test (get_or xs i d))
any_more test [] i d lt = absurd (omega arith)
any_more test (x ∷ xs) zero d lt = or_false (test x)
any_more test (x ∷ xs) (suc i) d lt = ap (λ b. test x || b) (any_more test xs i d (omega arith)) ∙ assoc (test x) (list_any test (take i xs)) (test (get_or xs i d))
  where
    assoc : (a b c : Bool) → (a || (b || c)) ≡ ((a || b) || c)
    assoc true b c = refl
    assoc false b c = refl

none_has : (test : Message → Bool) (xs : List Message) (i j : ℕ) (d : Message) → list_any test (take i xs) ≡ false → j < i → j < length xs → test (get_or xs j d) ≡ false
none_has test [] i j d h lt inside = absurd (omega arith)
none_has test (x ∷ xs) zero j d h lt inside = absurd (omega arith)
none_has test (x ∷ xs) (suc i) zero d h lt inside = left (test x) (list_any test (take i xs)) h
  where
    left : (a b : Bool) → (a || b) ≡ false → a ≡ false
    left true b e = e
    left false b e = refl
none_has test (x ∷ xs) (suc i) (suc j) d h lt inside = none_has test xs i j d (right (test x) (list_any test (take i xs)) h) (omega arith) (omega arith)
  where
    right : (a b : Bool) → (a || b) ≡ false → b ≡ false
    right true b e = absurd (cc)
    right false b e = e

some_has : (test : Message → Bool) (xs : List Message) (i : ℕ) (d : Message) → list_any test (take i xs) ≡ true → (j : ℕ) × (j < i) × (j < length xs) × (test (get_or xs j d) ≡ true)
some_has test [] zero d h = absurd (cc)
some_has test [] (suc i) d h = absurd (cc)
some_has test (x ∷ xs) zero d h = absurd (cc)
some_has test (x ∷ xs) (suc i) d h = elim (or_cases (test x) (list_any test (take i xs)) h) [
  | inl here ↦ (0, omega arith, omega arith, here)
  | inr there ↦ (let r = some_has test xs i d there in (suc r.0, (let a : r.0 < i = r.1 in omega arith), (let b : r.0 < length xs = r.2 in omega arith), r.3))
]

-- where a number was not seen, the message that has it differs from those before, and so one more differs
pub differ_more : (xs : List Message) (i : ℕ) (e : Message) → i < length xs → list_any (has_number (get_or xs i e).number (get_or xs i e).sender) (take i xs) ≡ false
    → ((j k : ℕ) (d : Message) → j < k → k < i → NumbersDiffer (get_or xs j d) (get_or xs k d)) → (j k : ℕ) (d : Message) → j < k → k < i + 1 → NumbersDiffer (get_or xs j d) (get_or xs k d)
differ_more xs i e lt none before j k d below at = elim (cases_lt k i) [
  | inl earlier ↦ before j k d below earlier
  | inr ge ↦ (let P : ℕ → Type 0 = λ k. NumbersDiffer (get_or xs j d) (get_or xs k d) in
      let Q : Message → Type 0 = λ m. NumbersDiffer (get_or xs j d) m in
      let under : j < i = omega arith in
      subst P (let is : i ≡ k = omega arith in is) (subst Q (get_or_default xs i e d lt) (differs under)))
]
  where
    differs : j < i → NumbersDiffer (get_or xs j d) (get_or xs i e)
    differs under same is =
        let m = get_or xs i e in
        let o = get_or xs j d in
        let no : has_number m.number m.sender o ≡ false = none_has (has_number m.number m.sender) xs i j d none under (omega arith) in
        let has : has_number m.number m.sender o ≡ true = and_from (nat_eq m.number o.number) (nat_eq m.sender o.sender) (eq-eqb m.number o.number (sym is)) (eq-eqb m.sender o.sender (sym same)) in
        absurd (cc)

-- where it was seen, not all differ
pub seen_before : (xs : List Message) (i : ℕ) (d : Message) → i < length xs → list_any (has_number (get_or xs i d).number (get_or xs i d).sender) (take i xs) ≡ true → AllPairs NumbersDiffer xs → ⊥
seen_before xs i d lt seen pairs =
    let m = get_or xs i d in
    let r = some_has (has_number m.number m.sender) xs i d seen in
    let o = get_or xs r.0 d in
    let both = and_parts (nat_eq m.number o.number) (nat_eq m.sender o.sender) r.3 in
    pairs r.0 i d r.1 lt (sym (eqb-true m.sender o.sender both.1)) (sym (eqb-true m.number o.number both.0))
