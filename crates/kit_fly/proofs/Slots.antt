-- Which stages a federate publishes, and with how many registers.
use Rattle.std.proofs.Common.{◌≡◌, ◌≢◌, ℕ, ◌+◌, ◌^◌, ◌<◌, ◌≤◌, ◌==◌, ◌&&◌, ◌||◌, ◌⊎◌, not, nat_lt, Bool, true, false, cond, length, refl, sym, ap, subst, subst₂, ◌∙◌, arith, eq-eqb, inl, inr}
use Rattle.std.specs.Prelude.{Some, None}
use Rattle.std.proofs.lemmas.Bool.{cases_lt, cases_eq, lt-ltb, ltb-true, eqb-true, ne_eqb, and_parts, false≢true}
use Rattle.kit_model.specs.Blocks.{width, stages}
use Rattle.kit_model.proofs.Widths.{width_is_greatest}
use Rattle.kit_lbts.specs.declared.view.Scheme.{Scheme}
use Rattle.kit_lbts.specs.declared.view.Scheme.TheVariants.{Flat, Butterfly}
use Rattle.kit_lbts.specs.Reduction.{back_stage, has_outer, is_outer, shares_needed, publishes, share_stage, sources}
use Rattle.kit_lbts.proofs.Gathering.{shift}
use Rattle.kit_fly.specs.Stages.{IsDue, IsDueSlot}
use Rattle.kit_fly.proofs.Sources.{inner_is, inner_long}

-- a value on the way, of one within the butterfly
pub record IsValue (n x stage : ℕ) : Type 0 where
  pub early : stage < 4
  pub inside : x < width n
  pub last : (stage ≡ 0) ⊎ (stage < stages n)
  pub many : shares_needed Butterfly n x stage ≡ stage + shift (has_outer n x)

-- the result, for the outer federate
pub record IsBack (n x stage : ℕ) : Type 0 where
  pub five : stage ≡ 5
  pub inside : x < width n
  pub outer : width n + x < n
  pub one : shift (has_outer n x) ≡ 1
  pub many : shares_needed Butterfly n x stage ≡ stages n + 1

opened : (b : Bool) → not b ≡ true → b ≡ false
opened true e = absurd (false≢true e)
opened false e = refl

reopened : (b : Bool) → not b ≡ false → b ≡ true
reopened true e = refl
reopened false e = absurd (false≢true (sym e))

either_of : (a b : Bool) → (a || b) ≡ true → (a ≡ true) ⊎ (b ≡ true)
either_of true b e = inl refl
either_of false b e = inr e

no_later : (b : Bool) → (b || false) ≡ true → b ≡ true
no_later true e = refl
no_later false e = e

none_of : (b : Bool) → (b && false) ≡ false
none_of true = refl
none_of false = refl

many_of : (a b : Bool) (all one : ℕ) → a ≡ false → b ≡ false → cond a 0 (cond b all one) ≡ one
many_of a b all one ea eb = ap (λ t. cond t 0 (cond b all one)) ea ∙ ap (λ t. cond t all one) eb

pub many_values : (n x stage : ℕ) → stage ≢ 4 → stage ≢ 5 → shares_needed Butterfly n x stage ≡ stage + shift (has_outer n x)
many_values n x stage four five =
    many_of (stage == share_stage) (stage == back_stage) (length (sources Butterfly n x)) (stage + shift (has_outer n x)) (ne_eqb stage share_stage four) (ne_eqb stage back_stage five)

value_is : (n x stage : ℕ) → stage ≢ 4 → stage ≢ 5 → publishes Butterfly n x stage ≡ true → IsValue n x stage
value_is n x stage four five does =
    let h = has_outer n x in
    let last = stage == 0 || nat_lt stage (stages n) in
    let rest : (nat_lt stage share_stage && not (is_outer n x) && last) ≡ true =
    subst₂ (λ t u. (t || (u && h) || (nat_lt stage share_stage && not (is_outer n x) && last)) ≡ true) (ne_eqb stage share_stage four) (ne_eqb stage back_stage five) does in
    let both = and_parts (nat_lt stage share_stage && not (is_outer n x)) last rest in
    let tests = and_parts (nat_lt stage share_stage) (not (is_outer n x)) both.0 in
    record {
      early = ltb-true stage share_stage tests.0;
      inside = ltb-true x (width n) (reopened (nat_lt x (width n)) (opened (is_outer n x) tests.1));
      last = elim (either_of (stage == 0) (nat_lt stage (stages n)) both.1) [ inl e ↦ inl (eqb-true stage 0 e) | inr e ↦ inr (ltb-true stage (stages n) e) ];
      many = many_values n x stage four five;
    }

back_is : (n x stage : ℕ) → stage ≡ 5 → publishes Butterfly n x stage ≡ true → IsBack n x stage
back_is n x stage five does =
    let has : has_outer n x ≡ true = no_later (has_outer n x) (subst (λ s. publishes Butterfly n x s ≡ true) five does) in
    let parts = and_parts (nat_lt x (width n)) (nat_lt (width n + x) n) has in
    let inside = ltb-true x (width n) parts.0 in
    let one : shift (has_outer n x) ≡ 1 = ap shift has in
    let all : shares_needed Butterfly n x stage ≡ length (sources Butterfly n x) = ap (shares_needed Butterfly n x) five in
    record {
      five = five;
      inside = inside;
      outer = ltb-true (width n + x) n parts.1;
      one = one;
      many = omega (arith, all, inner_long n x inside, one);
    }

-- whatever is published beside the own share is one or the other
pub published_is : (n x stage : ℕ) → stage ≢ 4 → publishes Butterfly n x stage ≡ true → IsValue n x stage ⊎ IsBack n x stage
published_is n x stage four does = elim (cases_eq stage 5) [ inl five ↦ inr (back_is n x stage five does) | inr five ↦ inl (value_is n x stage four five does) ]

tests : (a b c d z h : Bool) → a ≡ false → b ≡ false → c ≡ true → d ≡ false → z ≡ true → (a || (b && h) || (c && not d && z)) ≡ true
tests a b c d z h ea eb ec ed ez =
    ap (λ t. t || (b && h) || (c && not d && z)) ea ∙ (ap (λ t. (t && h) || (c && not d && z)) eb ∙ (ap (λ t. t && not d && z) ec ∙ (ap (λ t. not t && z) ed ∙ ez)))

last_is : (stage s : ℕ) → (stage ≡ 0) ⊎ (stage < s) → (stage == 0 || nat_lt stage s) ≡ true
last_is stage s h = elim h [
  | inl e ↦ ap (λ b. b || nat_lt stage s) (eq-eqb stage 0 e)
  | inr lt ↦ ap (λ b. stage == 0 || b) (lt-ltb stage s lt) ∙ either (stage == 0)
]
  where
    either : (b : Bool) → (b || true) ≡ true
    either true = refl
    either false = refl

pub values_published : (n x stage : ℕ) → stage < 4 → x < width n → (stage ≡ 0) ⊎ (stage < stages n) → publishes Butterfly n x stage ≡ true
values_published n x stage early inside last =
    tests (stage == share_stage) (stage == back_stage) (nat_lt stage share_stage) (is_outer n x) (stage == 0 || nat_lt stage (stages n)) (has_outer n x)
    (ne_eqb stage share_stage (λ e. omega (arith, e, early))) (ne_eqb stage back_stage (λ e. omega (arith, e, early))) (lt-ltb stage share_stage early) (inner_is n x inside) (last_is stage (stages n) last)

pub back_published : (n x : ℕ) → has_outer n x ≡ true → publishes Butterfly n x back_stage ≡ true
back_published n x has = ap (λ b. b || false) has

-- no more is needed than there is
pub few_needed : (scheme : Scheme) (n x stage : ℕ) → publishes scheme n x stage ≡ true → shares_needed scheme n x stage ≤ length (sources scheme n x)
few_needed Flat n x stage does = let none : shares_needed Flat n x stage ≡ 0 = ap (shares_needed Flat n x) (eqb-true stage share_stage does) in omega (arith, none)
few_needed Butterfly n x stage does = elim (cases_eq stage 4) [
  | inl four ↦ let none : shares_needed Butterfly n x stage ≡ 0 = ap (shares_needed Butterfly n x) four in omega (arith, none)
  | inr other ↦ elim (published_is n x stage other does) [
    | inl v ↦ elim v.last [
      | inl e ↦ omega (arith, v.many, inner_long n x v.inside, e)
      | inr lt ↦ omega (arith, v.many, inner_long n x v.inside, lt)
    ]
    | inr b ↦ omega (arith, b.many, b.one, inner_long n x b.inside)
  ]
]

-- one who has an outer federate has stages
pub some_stages : (n x : ℕ) → width n + x < n → 0 < stages n
some_stages n x outer = elim (cases_lt 0 (stages n)) [
  | inl lt ↦ lt
  | inr none ↦
      let zero' : stages n ≡ 0 = omega (arith, none) in
      let one : width n ≡ 1 = ap (λ s. 2 ^ s) zero' in
      let greatest = (width_is_greatest n (omega (arith, outer))).1 in
      absurd (omega (arith, one, greatest, outer))
]

-- one stage at most is due
pub one_due : (n x taken a b : ℕ) → IsDue n x taken a → IsDue n x taken b → a ≡ b
one_due n x taken a b ha hb =
    let na = ha.now in
    let nb = hb.now in
    elim (published_is n x a ha.other ha.published) [
      | inl va ↦ elim (published_is n x b hb.other hb.published) [
        | inl vb ↦ omega (arith, va.many, vb.many, na, nb)
        | inr bb ↦ elim va.last [
          | inl e ↦ let some = some_stages n x bb.outer in absurd (omega (arith, va.many, bb.many, bb.one, na, nb, e, some))
          | inr lt ↦ absurd (omega (arith, va.many, bb.many, bb.one, na, nb, lt))
        ]
      ]
      | inr ba ↦ elim (published_is n x b hb.other hb.published) [
        | inl vb ↦ elim vb.last [
          | inl e ↦ let some = some_stages n x ba.outer in absurd (omega (arith, vb.many, ba.many, ba.one, na, nb, e, some))
          | inr lt ↦ absurd (omega (arith, vb.many, ba.many, ba.one, na, nb, lt))
        ]
        | inr bb ↦ ba.five ∙ sym bb.five
      ]
    ]

-- ---- which stage is due
pub none_outside : (n x taken : ℕ) → width n ≤ x → IsDueSlot n x taken None
none_outside n x taken out stage h = elim (published_is n x stage h.other h.published) [ inl v ↦ omega (arith, v.inside, out) | inr b ↦ omega (arith, b.inside, out) ]

pub none_before : (n x taken : ℕ) → taken < shift (has_outer n x) → IsDueSlot n x taken None
none_before n x taken lt stage h = elim (published_is n x stage h.other h.published) [
  | inl v ↦ omega (arith, v.many, h.now, lt)
  | inr b ↦ let some = some_stages n x b.outer in omega (arith, b.many, b.one, h.now, lt, some)
]

pub value_due : (n x taken stage : ℕ) → stage < 4 → x < width n → (stage ≡ 0) ⊎ (stage < stages n) → stage + shift (has_outer n x) ≡ taken → IsDueSlot n x taken (Some stage)
value_due n x taken stage early inside last at =
    let due : IsDue n x taken stage = record {
      known = omega (arith, early);
      other = λ e. omega (arith, e, early);
      published = values_published n x stage early inside last;
      now = many_values n x stage (λ e. omega (arith, e, early)) (λ e. omega (arith, e, early)) ∙ at;
    } in
    (due, λ other h. one_due n x taken other stage h due)

pub back_due : (n x taken : ℕ) → has_outer n x ≡ true → taken ≡ length (sources Butterfly n x) → IsDueSlot n x taken (Some back_stage)
back_due n x taken has at =
    let due : IsDue n x taken back_stage = record { known = omega arith; other = λ e. omega (arith, e); published = back_published n x has; now = sym at } in
    (due, λ other h. one_due n x taken other back_stage h due)

pub none_after : (n x taken : ℕ) → shift (has_outer n x) ≡ 0 → stages n ≤ taken → 0 < taken → IsDueSlot n x taken None
none_after n x taken none le some stage h = elim (published_is n x stage h.other h.published) [
  | inl v ↦ elim v.last [ inl e ↦ omega (arith, v.many, h.now, none, e, some) | inr lt ↦ omega (arith, v.many, h.now, none, lt, le) ]
  | inr b ↦ omega (arith, b.one, none)
]
