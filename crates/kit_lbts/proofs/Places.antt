-- Whatever is taken in is a place of another federate, which publishes it.
use Rattle.std.proofs.Common.{◌≡◌, ◌≢◌, ℕ, zero, suc, ◌+◌, ◌-◌, ◌<◌, ◌≤◌, ◌==◌, ◌&&◌, ◌||◌, not, nat_lt, Bool, true, false, length, get_or, arith, refl, sym, ap, ◌∙◌, subst, eq-eqb}
use Rattle.std.specs.List.{All, filter, range_with_len}
use Rattle.std.proofs.lemmas.Bool.{lt-ltb, ltb-true, ltb-false, ne_eqb, and_parts, and_from, false≢true}
use Rattle.std.proofs.lemmas.List.{length-map, get_or-map}
use Rattle.std.proofs.lemmas.List.Elements.{filter_passes, All-filter, All-nil, All-cons}
use Rattle.std.proofs.lemmas.Nat.{pow_pos}
use Rattle.kit_model.specs.Blocks.{stages, width, partner_of, everybody}
use Rattle.kit_model.proofs.Widths.{width_is_greatest}
use Rattle.kit_model.proofs.Rows.{partners_are_within, partner_differs}
use Rattle.kit_lbts.specs.declared.view.Scheme.{Scheme}
use Rattle.kit_lbts.specs.declared.view.Scheme.TheVariants.{Flat, Butterfly}
use Rattle.kit_lbts.specs.Reduction.{share_stage, back_stage, Source, source, is_outer, has_outer, publishes, sources}
use Rattle.kit_lbts.specs.Registers.{IsPlace}
use Rattle.kit_lbts.specs.ReductionLaws.{SourcesArePublished}
use Rattle.kit_lbts.proofs.Gathering.{few_stages, inner, places_by, inner_at, inner_length}

-- what is said of one place
abbrev Fine : Scheme → ℕ → ℕ → Source → Type 0
Fine scheme n x s = IsPlace n s.owner s.stage × (publishes scheme n s.owner s.stage ≡ true) × (s.owner ≢ x)

-- everybody is below n
below_from : (bound low len : ℕ) → low + len ≤ bound → All (λ j. j < bound) (range_with_len low len)
below_from bound low zero le = All-nil (λ j. j < bound)
below_from bound low (suc len) le = All-cons (λ j. j < bound) low (range_with_len (low + 1) len) (omega arith) (below_from bound (low + 1) len (omega arith))

flat_fine : (n x l : ℕ) → l < length (sources Flat n x) → Fine Flat n x (get_or (sources Flat n x) l (source 0 0))
flat_fine n x l lt =
    let ys = filter (λ j. not (j == x)) (everybody n) in
    let short : l < length ys = omega (arith, lt, length-map ys (λ j. source j share_stage)) in
    let is = get_or-map (λ j. source j share_stage) ys l 0 (source 0 0) short in
    let within : get_or ys l 0 < n = All-filter (λ j. not (j == x)) (λ j. j < n) (everybody n) (below_from n 0 n (omega arith)) l 0 short in
    let differs : not (get_or ys l 0 == x) ≡ true = filter_passes (λ j. not (j == x)) (everybody n) l 0 short in
    subst (Fine Flat n x) (sym is)
    (record { there = within; known = omega arith; inside = λ h. absurd (omega (arith, h)) }, refl, λ e. absurd (false≢true (sym (ap (λ j. not (j == x)) e ∙ ap not (eq-eqb x x refl)) ∙ differs)))

-- the tests of a stage that is published
tests : (a b c d e z h : Bool) → a ≡ false → b ≡ false → c ≡ true → d ≡ true → e ≡ true → (a || (b && h) || (c && not (not d) && (z || e))) ≡ true
tests a b c d e z h ea eb ec ed ee =
    ap (λ t. t || (b && h) || (c && not (not d) && (z || e))) ea ∙ ap (λ t. (t && h) || (c && not (not d) && (z || e))) eb
    ∙ ap (λ t. t && not (not d) && (z || e)) ec ∙ ap (λ t. not (not t) && (z || e)) ed ∙ ap (λ t. z || t) ee ∙ either z
  where
    either : (z : Bool) → (z || true) ≡ true
    either true = refl
    either false = refl

-- the place that a stage takes in
stage_fine : (n x s : ℕ) → 1 ≤ n → n ≤ 16 → x < width n → s < stages n → Fine Butterfly n x (source (partner_of s x) s)
stage_fine n x s one few within lt =
    let y = partner_of s x in
    let there : y < width n = partners_are_within n s x within lt in
    let four : s < 4 = omega (arith, few_stages n one few) in (
      record { there = omega (arith, there, (width_is_greatest n one).0); known = omega arith; inside = λ _. there },
      tests (s == share_stage) (s == back_stage) (nat_lt s share_stage) (nat_lt y (width n)) (nat_lt s (stages n)) (s == 0) (has_outer n y)
          (ne_eqb s share_stage (λ e. omega (arith, e, four))) (ne_eqb s back_stage (λ e. omega (arith, e, four))) (lt-ltb s share_stage four) (lt-ltb y (width n) there) (lt-ltb s (stages n) lt),
      partner_differs s x,
    )

inner_fine : (n x l : ℕ) (b : Bool) → 1 ≤ n → n ≤ 16 → x < width n → has_outer n x ≡ b → l < length (inner n x b) → Fine Butterfly n x (get_or (inner n x b) l (source 0 0))
inner_fine n x zero true one few within e lt =
    let outer : width n + x < n = ltb-true (width n + x) n (and_parts (nat_lt x (width n)) (nat_lt (width n + x) n) e).1 in
    (record { there = outer; known = omega arith; inside = λ h. absurd (omega (arith, h)) }, refl, λ e. omega (arith, e, within))
inner_fine n x (suc l) true one few within e lt =
    let s : l < stages n = omega (arith, lt, inner_length n x true) in
    let next : l + 1 ≡ suc l = omega arith in
    subst (Fine Butterfly n x) (sym (ap (λ k. get_or (inner n x true) k (source 0 0)) (sym next) ∙ inner_at n x l true s)) (stage_fine n x l one few within s)
inner_fine n x l false one few within e lt =
    let s : l < stages n = omega (arith, lt, inner_length n x false) in
    let next : l + 0 ≡ l = omega arith in
    subst (Fine Butterfly n x) (sym (ap (λ k. get_or (inner n x false) k (source 0 0)) (sym next) ∙ inner_at n x l false s)) (stage_fine n x l one few within s)

by_outer : (n x l : ℕ) (outer : Bool) → x < n → n ≤ 16 → is_outer n x ≡ outer → l < length (places_by n x outer (has_outer n x))
    → Fine Butterfly n x (get_or (places_by n x outer (has_outer n x)) l (source 0 0))
by_outer n x zero true xn few e lt =
    let greatest = width_is_greatest n (omega arith) in
    let above : width n ≤ x = ltb-false x (width n) (outside (nat_lt x (width n)) e) in
    let y = x - width n in
    let has : has_outer n y ≡ true = and_from (nat_lt y (width n)) (nat_lt (width n + y) n) (lt-ltb y (width n) (omega (arith, greatest.1))) (lt-ltb (width n + y) n (omega arith)) in
    (record { there = omega arith; known = omega arith; inside = λ h. absurd (omega (arith, h)) }, ap (λ b. b || false) has, λ e. omega (arith, e, above, pow_pos (stages n)))
  where
    outside : (b : Bool) → not b ≡ true → b ≡ false
    outside true e = absurd (false≢true e)
    outside false e = refl
by_outer n x (suc l) true xn few e lt = absurd (omega (arith, lt))
by_outer n x l false xn few e lt =
    inner_fine n x l (has_outer n x) (omega arith) few (ltb-true x (width n) (inside (nat_lt x (width n)) e)) refl lt
  where
    inside : (b : Bool) → not b ≡ false → b ≡ true
    inside true e = refl
    inside false e = absurd (false≢true (sym e))

pub sources_are_published : SourcesArePublished
sources_are_published Flat n x l xn few lt = flat_fine n x l lt
sources_are_published Butterfly n x l xn few lt = by_outer n x l (is_outer n x) xn few refl lt
