-- Which registers a federate takes in, one by one.
use Rattle.std.proofs.Common.{◌≡◌, ◌≢◌, ℕ, zero, suc, ◌+◌, ◌-◌, ◌^◌, ◌<◌, ◌≤◌, ◌==◌, ◌&&◌, not, nat_lt, Bool, true, false, cond, List, [], ◌∷◌, ◌++◌, length, map, get_or, refl, sym, ap, ◌∙◌, arith, eq-eqb, inl, inr}
use Rattle.std.specs.List.{filter, range_with_len}
use Rattle.std.proofs.lemmas.Bool.{cases_lt, lt-ltb, le-ltb, ne_eqb}
use Rattle.std.proofs.lemmas.List.{length-append, map-append, get_or_append_left, get_or-append_right}
use Rattle.std.proofs.lemmas.List.Elements.{filter-append}
use Rattle.std.proofs.lemmas.List.FromFn.{length-map-range_with_len, get_or-map-range_with_len}
use Rattle.kit_ground.specs.declared.address.Reg.{Reg}
use Rattle.kit_ground.specs.Steps.{IsReg, reg_index}
use Rattle.kit_model.specs.Blocks.{everybody, width, stages, partner_of}
use Rattle.kit_model.proofs.Rows.{partners_are_within}
use Rattle.kit_model.proofs.Sieves.{all_pass}
use Rattle.kit_model.proofs.Widths.{stages_only}
use Rattle.kit_lbts.specs.declared.view.Scheme.{Scheme}
use Rattle.kit_lbts.specs.declared.view.Scheme.TheVariants.{Flat, Butterfly}
use Rattle.kit_lbts.specs.Reduction.{Source, has_outer, is_outer, reg_of, source, sources}
use Rattle.kit_lbts.proofs.Gathering.{inner, inner_at, inner_length, places_by, shift}
use Rattle.kit_lbts.proofs.Places.{sources_are_published}
use Rattle.kit_fly.specs.Rounds.{register_in}
use Rattle.kit_fly.specs.Stages.{AreStagesOf, folds_of, registers_among}
use Rattle.kit_fly.specs.Laws.{RegistersAreFew, RegistersDiffer}

pub are_stages : (s n : ℕ) → 2 ^ s ≤ n → n < 2 ^ (s + 1) → AreStagesOf s n
are_stages s n low high = sym (stages_only s n low high)

-- ---- the flat scheme
row_split : (low a b c : ℕ) → low + a ≡ c → range_with_len low (a + b) ≡ range_with_len low a ++ range_with_len c b
row_split low zero b c e =
    let none : 0 + b ≡ b = omega arith in
    let same : low ≡ c = omega (arith, e) in
    ap (λ k. range_with_len low k) none ∙ ap (λ l. range_with_len l b) same
row_split low (suc a) b c e =
    let next : suc a + b ≡ suc (a + b) = omega arith in
    ap (λ k. range_with_len low k) next ∙ ap (λ l. low ∷ l) (row_split (low + 1) a b c (omega (arith, e)))

others_are : (n x : ℕ) → x < n → filter (λ j. not (j == x)) (everybody n) ≡ range_with_len 0 x ++ range_with_len (x + 1) (n - x - 1)
others_are n x lt =
    let t : ℕ → Bool = λ j. not (j == x) in
    let rest = n - x - 1 in
    let whole : n ≡ x + suc rest = omega (arith, lt) in
    ap (λ k. filter t (range_with_len 0 k)) whole
    ∙ (ap (filter t) (row_split 0 x (suc rest) x (omega arith))
    ∙ (filter-append t (range_with_len 0 x) (range_with_len x (suc rest))
    ∙ (ap (λ l. l ++ filter t (range_with_len x (suc rest))) (all_pass t 0 x (λ y low less. ap not (ne_eqb y x (λ e. omega (arith, e, less)))))
    ∙ ap (λ l. range_with_len 0 x ++ l)
    (ap (λ b. cond (not b) (x ∷ filter t (range_with_len (x + 1) rest)) (filter t (range_with_len (x + 1) rest))) (eq-eqb x x refl)
    ∙ all_pass t (x + 1) rest (λ y low less. ap not (ne_eqb y x (λ e. omega (arith, e, low))))))))

abbrev share_of_one : ℕ → Source
share_of_one j = source j 4

flat_sources : (n x : ℕ) → x < n → sources Flat n x ≡ map share_of_one (range_with_len 0 x) ++ map share_of_one (range_with_len (x + 1) (n - x - 1))
flat_sources n x lt = ap (map share_of_one) (others_are n x lt) ∙ map-append share_of_one (range_with_len 0 x) (range_with_len (x + 1) (n - x - 1))

pub flat_long : (n x : ℕ) → x < n → length (sources Flat n x) + 1 ≡ n
flat_long n x lt =
    let a = length-map-range_with_len share_of_one 0 x in
    let b = length-map-range_with_len share_of_one (x + 1) (n - x - 1) in
    let c = length-append (map share_of_one (range_with_len 0 x)) (map share_of_one (range_with_len (x + 1) (n - x - 1))) in
    let e = ap length (flat_sources n x lt) in
    omega (arith, a, b, c, e, lt)

abbrev at_place : ℕ → ℕ → List Source → Reg
at_place round taken l = let s = get_or l taken (source 0 0) in reg_of s.owner s.stage round

pub flat_below : (n x round taken : ℕ) → x < n → taken < x → register_in Flat n x round taken ≡ reg_of taken 4 round
flat_below n x round taken there lt =
    let a = length-map-range_with_len share_of_one 0 x in
    ap (at_place round taken) (flat_sources n x there)
    ∙ ap (λ (s : Source). reg_of s.owner s.stage round)
    (get_or_append_left (map share_of_one (range_with_len 0 x)) (map share_of_one (range_with_len (x + 1) (n - x - 1))) (source 0 0) taken (omega (arith, a, lt))
    ∙ get_or-map-range_with_len share_of_one 0 x taken taken (source 0 0) lt (omega arith))

pub flat_above : (n x round taken : ℕ) → x < n → x ≤ taken → taken + 1 < n → register_in Flat n x round taken ≡ reg_of (taken + 1) 4 round
flat_above n x round taken there le lt =
    let a = length-map-range_with_len share_of_one 0 x in
    ap (at_place round taken) (flat_sources n x there)
    ∙ ap (λ (s : Source). reg_of s.owner s.stage round)
    (get_or-append_right (map share_of_one (range_with_len 0 x)) (map share_of_one (range_with_len (x + 1) (n - x - 1))) x taken (source 0 0) a le
    ∙ get_or-map-range_with_len share_of_one (x + 1) (n - x - 1) (taken - x) (taken + 1) (source 0 0) (omega (arith, le, lt)) (omega (arith, le)))

-- ---- the butterfly
pub outer_is : (n x : ℕ) → width n ≤ x → is_outer n x ≡ true
outer_is n x out = ap not (le-ltb x (width n) out)

pub inner_is : (n x : ℕ) → x < width n → is_outer n x ≡ false
inner_is n x inside = ap not (lt-ltb x (width n) inside)

pub folds_are : (n x : ℕ) → x < width n → shift (has_outer n x) ≡ folds_of n (stages n) x
folds_are n x inside = ap (λ b. shift (b && nat_lt (width n + x) n)) (lt-ltb x (width n) inside)

pub outer_sources : (n x : ℕ) → width n ≤ x → sources Butterfly n x ≡ source (x - width n) 5 ∷ []
outer_sources n x out = ap (λ b. places_by n x b (has_outer n x)) (outer_is n x out)

pub inner_sources : (n x : ℕ) → x < width n → sources Butterfly n x ≡ inner n x (has_outer n x)
inner_sources n x inside = ap (λ b. places_by n x b (has_outer n x)) (inner_is n x inside)

pub inner_long : (n x : ℕ) → x < width n → length (sources Butterfly n x) ≡ stages n + shift (has_outer n x)
inner_long n x inside = ap length (inner_sources n x inside) ∙ inner_length n x (has_outer n x)

pub outer_long : (n x : ℕ) → width n ≤ x → length (sources Butterfly n x) ≡ 1
outer_long n x out = ap length (outer_sources n x out)

pub registers_long : (n x : ℕ) → length (sources Butterfly n x) ≡ registers_among n (stages n) x
registers_long n x = elim (cases_lt x (width n)) [
  | inl inside ↦
      let f = folds_are n x inside in
      let l = inner_long n x inside in
      let sum : length (sources Butterfly n x) ≡ folds_of n (stages n) x + stages n = omega (arith, f, l) in
      sum ∙ sym (ap (λ b. cond b (folds_of n (stages n) x + stages n) 1) (lt-ltb x (width n) inside))
  | inr out ↦ outer_long n x out ∙ sym (ap (λ b. cond b (folds_of n (stages n) x + stages n) 1) (le-ltb x (width n) out))
]

pub outer_next : (n x round : ℕ) → width n ≤ x → register_in Butterfly n x round 0 ≡ reg_of (x - width n) 5 round
outer_next n x round out = ap (at_place round 0) (outer_sources n x out)

pub folded_next : (n x round : ℕ) → x < width n → width n + x < n → register_in Butterfly n x round 0 ≡ reg_of (width n + x) 4 round
folded_next n x round inside has =
    ap (at_place round 0) (inner_sources n x inside)
    ∙ (ap (λ b. at_place round 0 (inner n x (b && nat_lt (width n + x) n))) (lt-ltb x (width n) inside)
    ∙ ap (λ b. at_place round 0 (inner n x b)) (lt-ltb (width n + x) n has))

-- after the folds the stages, one by one
pub stage_next : (n x round taken s : ℕ) → x < width n → s < stages n → s + shift (has_outer n x) ≡ taken → register_in Butterfly n x round taken ≡ reg_of (partner_of s x) s round
stage_next n x round taken s inside lt at =
    ap (at_place round taken) (inner_sources n x inside)
    ∙ (ap (λ k. at_place round k (inner n x (has_outer n x))) (sym at)
    ∙ ap (λ (c : Source). reg_of c.owner c.stage round) (inner_at n x s (has_outer n x) lt))

-- ---- all of them
pub is_reg : (scheme : Scheme) (n x round taken : ℕ) → x < n → n ≤ 16 → taken < length (sources scheme n x) → IsReg n (register_in scheme n x round taken)
is_reg scheme n x round taken there few lt =
    let place = (sources_are_published scheme n x taken there few lt).0 in
    (place.there, omega (arith, place.known))

pub index_differs : (r c : Reg) → r.slot < 13 → c.slot < 13 → r ≢ c → reg_index r ≢ reg_index c
index_differs r c rs cs ne e =
    let owner : r.owner ≡ c.owner = omega (arith, rs, cs, e) in
    let slot : r.slot ≡ c.slot = omega (arith, rs, cs, e) in
    ne (λ i. record { owner = owner i; slot = slot i })

one_or_none : (b : Bool) → shift b ≤ 1
one_or_none true = omega arith
one_or_none false = omega arith

pub registers_are_few : RegistersAreFew
registers_are_few n x = elim (cases_lt x (width n)) [
  | inl inside ↦ omega (arith, inner_long n x inside, one_or_none (has_outer n x))
  | inr out ↦ omega (arith, outer_long n x out)
]

flat_differ : (n x round l m : ℕ) → x < n → l < m → m < length (sources Flat n x) → register_in Flat n x round l ≢ register_in Flat n x round m
flat_differ n x round l m there lt inside e =
    let long = flat_long n x there in
    elim (cases_lt l x) [
      | inl la ↦ elim (cases_lt m x) [
        | inl ma ↦ let o = ap (λ (r : Reg). r.owner) (sym (flat_below n x round l there la) ∙ (e ∙ flat_below n x round m there ma)) in omega (arith, o, lt)
        | inr mb ↦ let o = ap (λ (r : Reg). r.owner) (sym (flat_below n x round l there la) ∙ (e ∙ flat_above n x round m there mb (omega (arith, long, inside)))) in omega (arith, o, lt)
      ]
      | inr lb ↦
          let o = ap (λ (r : Reg). r.owner) (sym (flat_above n x round l there lb (omega (arith, long, inside, lt))) ∙ (e ∙ flat_above n x round m there (omega (arith, lb, lt)) (omega (arith, long, inside)))) in
          omega (arith, o, lt)
    ]

inner_differ : (n x round l m : ℕ) → x < width n → l < m → m < length (sources Butterfly n x) → register_in Butterfly n x round l ≢ register_in Butterfly n x round m
inner_differ n x round l m inside lt within e =
    let f = shift (has_outer n x) in
    let one = one_or_none (has_outer n x) in
    let long = inner_long n x inside in
    let last = stage_next n x round m (m - f) inside (omega (arith, long, within, one, lt)) (omega (arith, one, lt)) in
    elim (cases_lt l f) [
      | inl before ↦
          let first : l ≡ 0 = omega (arith, before, one) in
          let owner : (register_in Butterfly n x round 0).owner ≡ width n + x =
          ap (λ (ss : List Source). (at_place round 0 ss).owner) (inner_sources n x inside) ∙ at_first (has_outer n x) before in
          let below = partners_are_within n (m - f) x inside (omega (arith, long, within, one, lt)) in
          let o = ap (λ (r : Reg). r.owner) (sym (ap (λ k. register_in Butterfly n x round k) first) ∙ (e ∙ last)) in
          omega (arith, owner, o, below)
      | inr after ↦
          let s = ap (λ (r : Reg). r.slot) (sym (stage_next n x round l (l - f) inside (omega (arith, long, within, lt, after)) (omega (arith, after))) ∙ (e ∙ last)) in
          omega (arith, s, lt, after)
    ]
  where
    at_first : (b : Bool) → l < shift b → (at_place round 0 (inner n x b)).owner ≡ width n + x
    at_first true h = refl
    at_first false h = absurd (omega (arith, h))

pub registers_differ : RegistersDiffer
registers_differ Flat k l m there lt within e = flat_differ k.federates k.number k.round l m there lt within e
registers_differ Butterfly k l m there lt within e = elim (cases_lt k.number (width k.federates)) [
  | inl inside ↦ inner_differ k.federates k.number k.round l m inside lt within e
  | inr out ↦ absurd (omega (arith, outer_long k.federates k.number out, lt, within))
]
