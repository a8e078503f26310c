-- Who has taken in all places has taken in everybody else.
use Rattle.std.proofs.Common.{◌≡◌, ◌≢◌, ℕ, zero, suc, ◌+◌, ◌/◌, ◌^◌, ◌<◌, ◌≤◌, ◌==◌, ◌&&◌, ◌||◌, not, nat_lt, ◌⊎◌, inl, inr, Bool, true, false, cond, List, ◌∷◌, length, get_or, arith, refl, sym, ap, ◌∙◌, eq-eqb}
use Rattle.std.specs.List.{filter, range_with_len}
use Rattle.std.proofs.lemmas.Bool.{cases_eq, lt-ltb, ltb-true, eqb-true, ne_eqb, and_parts, and_from, false≢true}
use Rattle.std.proofs.lemmas.List.{length-map, get_or-map}
use Rattle.kit_model.specs.Blocks.{stages, width, partner_of, in_block, everybody, place_of}
use Rattle.kit_model.proofs.Rows.{first_block, next_block, place_below}
use Rattle.std.proofs.Math.Nat.{div-eq_of_lt}
use Rattle.kit_lbts.specs.declared.view.Scheme.{Scheme}
use Rattle.kit_lbts.specs.declared.view.Scheme.TheVariants.{Flat, Butterfly}
use Rattle.kit_lbts.specs.Reduction.{share_stage, Source, source, is_outer, has_outer, takes_in, sources}
use Rattle.kit_lbts.proofs.Gathering.{few_stages, inner, places_by, shift, inner_at, inner_length}
use Rattle.kit_lbts.proofs.Knowledge.{takes_in_stage}

-- one of these places takes in i
pub record TakesIn (n i : ℕ) (ss : List Source) : Type 0 where
  pub place : ℕ
  pub within : place < length ss
  pub takes : takes_in n (get_or ss place (source 0 0)).owner (get_or ss place (source 0 0)).stage i ≡ true

-- a number among those that pass
found_in : (p : ℕ → Bool) (i low len : ℕ) → low ≤ i → i < low + len → p i ≡ true → (l : ℕ) × (l < length (filter p (range_with_len low len))) × (get_or (filter p (range_with_len low len)) l 0 ≡ i)
found_in p i low zero le lt h = absurd (omega arith)
found_in p i low (suc len) le lt h = elim (cases_eq low i) [
  | inl e ↦ here (p low) (ap p e ∙ h) e
  | inr ne ↦ later (p low) (found_in p i (low + 1) len (grind (arith, ne)) (omega arith) h)
]
  where
    here : (b : Bool) → b ≡ true → low ≡ i → (l : ℕ) × (l < length (cond b (low ∷ filter p (range_with_len (low + 1) len)) (filter p (range_with_len (low + 1) len)))) × (get_or (cond b (low ∷ filter p (range_with_len (low + 1) len)) (filter p (range_with_len (low + 1) len))) l 0 ≡ i)
    here true is e = (0, omega arith, e)
    here false is e = absurd (false≢true is)

    later : (b : Bool) → (l : ℕ) × (l < length (filter p (range_with_len (low + 1) len))) × (get_or (filter p (range_with_len (low + 1) len)) l 0 ≡ i)
        → (l : ℕ) × (l < length (cond b (low ∷ filter p (range_with_len (low + 1) len)) (filter p (range_with_len (low + 1) len)))) × (get_or (cond b (low ∷ filter p (range_with_len (low + 1) len)) (filter p (range_with_len (low + 1) len))) l 0 ≡ i)
    later true h = (suc h.0, omega (arith, h.1), h.2)
    later false h = h

flat_covers : (n x i : ℕ) → i < n → i ≢ x → TakesIn n i (sources Flat n x)
flat_covers n x i lt ne =
    let ys = filter (λ j. not (j == x)) (everybody n) in
    let h = found_in (λ j. not (j == x)) i 0 n (omega arith) (omega arith) (ap not (ne_eqb i x ne)) in
    let is = get_or-map (λ j. source j share_stage) ys h.0 0 (source 0 0) h.1 in
    record {
      place = h.0;
      within = omega (arith, h.1, length-map ys (λ j. source j share_stage));
      takes = ap (λ (s : Source). takes_in n s.owner s.stage i) is ∙ eq-eqb i (get_or ys h.0 0) (sym h.2);
    }

-- either holds
or_cases : (a b : Bool) → (a || b) ≡ true → (a ≡ true) ⊎ (b ≡ true)
or_cases true b e = inl refl
or_cases false b e = inr e

-- one of the first of these places takes in i
pub record TakesFirst (n i : ℕ) (ss : List Source) (many : ℕ) : Type 0 where
  pub place : ℕ
  pub before : place < many
  pub takes : takes_in n (get_or ss place (source 0 0)).owner (get_or ss place (source 0 0)).stage i ≡ true

-- within the butterfly, the places before a stage take in the block of that stage
pub first_covers : (n x i : ℕ) (b : Bool) → 1 ≤ n → n ≤ 16 → x < width n → has_outer n x ≡ b → (s : ℕ) → s ≤ stages n → in_block n s x i ≡ true → (i ≡ x) ⊎ TakesFirst n i (inner n x b) (s + shift b)
first_covers n x i b one few within outer zero le h =
    let first : (nat_lt i n && ((i == x) || (i == width n + x))) ≡ true = sym (first_block n x i within) ∙ h in
    let parts = and_parts (nat_lt i n) ((i == x) || (i == width n + x)) first in
    elim (or_cases (i == x) (i == width n + x) parts.1) [
      | inl e ↦ inl (eqb-true i x e)
      | inr e ↦ inr (outer_one b outer parts.0 e)
    ]
  where
    outer_one : (c : Bool) → has_outer n x ≡ c → nat_lt i n ≡ true → (i == width n + x) ≡ true → TakesFirst n i (inner n x c) (0 + shift c)
    outer_one true has lt e = record { place = 0; before = omega arith; takes = e }
    outer_one false has lt e =
        let is = eqb-true i (width n + x) e in
        let yes : has_outer n x ≡ true = and_from (nat_lt x (width n)) (nat_lt (width n + x) n) (lt-ltb x (width n) within) (ap (λ k. nat_lt k n) (sym is) ∙ lt) in
        absurd (false≢true (sym has ∙ yes))
first_covers n x i b one few within outer (suc s) le h =
    let next : s + 1 ≡ suc s = omega arith in
    let both : (in_block n s x i || in_block n s (partner_of s x) i) ≡ true = sym (next_block n s x i) ∙ ap (λ k. in_block n k x i) next ∙ h in
    elim (or_cases (in_block n s x i) (in_block n s (partner_of s x) i) both) [
      | inl e ↦ elim (first_covers n x i b one few within outer s (omega arith) e) [
        | inl own ↦ inl own
        | inr t ↦ inr (record { place = t.place; before = omega (arith, t.before); takes = t.takes })
      ]
      | inr e ↦
          let four : s < 4 = omega (arith, few_stages n one few) in
          inr (record {
            place = s + shift b;
            before = omega arith;
            takes = ap (λ (c : Source). takes_in n c.owner c.stage i) (inner_at n x s b (omega arith)) ∙ takes_in_stage n (partner_of s x) s i (λ q. omega (arith, q)) (λ q. omega (arith, q)) ∙ e;
          })
    ]

-- so all places take in the block of each stage
block_covers : (n x i : ℕ) (b : Bool) → 1 ≤ n → n ≤ 16 → x < width n → has_outer n x ≡ b → (s : ℕ) → s ≤ stages n → in_block n s x i ≡ true → (i ≡ x) ⊎ TakesIn n i (inner n x b)
block_covers n x i b one few within outer s le h = elim (first_covers n x i b one few within outer s le h) [
  | inl e ↦ inl e
  | inr t ↦ inr (record { place = t.place; within = omega (arith, t.before, inner_length n x b); takes = t.takes })
]

outer_covers : (n x i : ℕ) (outer : Bool) → x < n → n ≤ 16 → i < n → is_outer n x ≡ outer → (i ≡ x) ⊎ TakesIn n i (places_by n x outer (has_outer n x))
outer_covers n x i true xn few lt e = inr (record { place = 0; within = omega arith; takes = lt-ltb i n lt })
outer_covers n x i false xn few lt e =
    let within : x < width n = ltb-true x (width n) (inside (nat_lt x (width n)) e) in
    block_covers n x i (has_outer n x) (omega arith) few within refl (stages n) (omega arith)
    (and_from (nat_lt i n) (place_of n i / 2 ^ stages n == x / 2 ^ stages n) (lt-ltb i n lt) (eq-eqb _ _ (div-eq_of_lt (place_below n i lt) ∙ sym (div-eq_of_lt within))))
  where
    inside : (b : Bool) → not b ≡ false → b ≡ true
    inside true e = refl
    inside false e = absurd (false≢true (sym e))

pub covers : (scheme : Scheme) (n x i : ℕ) → x < n → n ≤ 16 → i < n → (i ≡ x) ⊎ TakesIn n i (sources scheme n x)
covers Flat n x i xn few lt = elim (cases_eq i x) [ inl e ↦ inl e | inr ne ↦ inr (flat_covers n x i lt ne) ]
covers Butterfly n x i xn few lt = outer_covers n x i (is_outer n x) xn few lt refl
