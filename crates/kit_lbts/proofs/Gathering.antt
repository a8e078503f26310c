-- What comes of the shares that a federate takes in.
use Rattle.std.proofs.Common.{◌≡◌, ℕ, zero, suc, ◌+◌, ◌-◌, ◌<◌, ◌≤◌, ◌==◌, ◌&&◌, ◌||◌, not, nat_lt, inl, inr, Bool, true, false, cond, min, List, [], ◌∷◌, ◌++◌, length, map, fold, take, get_or, arith, refl, sym, ap, ◌∙◌, subst, subst₂}
use Rattle.std.specs.List.{filter, sum_by, range_with_len}
use Rattle.std.proofs.lemmas.Bool.{cases_lt, cases_eq, lt-ltb, ltb-true, eqb-true, ne_eqb, and_parts, false≢true}
use Rattle.std.proofs.lemmas.List.{take_all, take_more, length-map, ext_get_or, get_or-map}
use Rattle.std.proofs.lemmas.List.Sums.{fold_push, sum_by-cons}
use Rattle.std.proofs.lemmas.List.FromFn.{get_or-map-range_with_len, length-map-range_with_len}
use Rattle.std.proofs.lemmas.Nat.{pow_below}
use Rattle.kit_model.specs.declared.share.Share.{Share}
use Rattle.kit_model.specs.Blocks.{stages, width, partner_of, everybody, stage_value, round_result}
use Rattle.kit_model.specs.Shares.{share_sum}
use Rattle.kit_model.proofs.Sieves.{least, least_either, least_le, least_le_start, sum_either, all_pass, one_passes}
use Rattle.kit_rounds.proofs.Results.{least_from}
use Rattle.kit_model.proofs.Widths.{width_is_greatest}
use Rattle.kit_model.proofs.Joining.{first_value, next_value, last_value}
use Rattle.kit_lbts.specs.declared.view.Scheme.{Scheme}
use Rattle.kit_lbts.specs.declared.view.Scheme.TheVariants.{Flat, Butterfly}
use Rattle.kit_lbts.specs.Promises.{unknown}
use Rattle.kit_lbts.specs.Reduction.{share_stage, back_stage, Source, source, value_at, is_outer, has_outer, sources, handed_back, share_with_taken, shares_needed, published_share}
use Rattle.kit_lbts.specs.ReductionLaws.{PublishedAreValues, AllIsResult}

-- the places of a butterfly, for one who has an outer federate or not
abbrev pub inner : ℕ → ℕ → Bool → List Source
inner n x b = cond b (source (width n + x) share_stage ∷ []) [] ++ map (λ s. source (partner_of s x) s) (range_with_len 0 (stages n))

abbrev pub shift : Bool → ℕ
shift b = cond b 1 0

pub inner_at : (n x s : ℕ) (b : Bool) → s < stages n → get_or (inner n x b) (s + shift b) (source 0 0) ≡ source (partner_of s x) s
inner_at n x s true lt =
    let e : s + 1 ≡ suc s = omega arith in
    ap (λ k. get_or (inner n x true) k (source 0 0)) e ∙ get_or-map-range_with_len (λ s. source (partner_of s x) s) 0 (stages n) s s (source 0 0) lt (omega arith)
inner_at n x s false lt =
    let e : s + 0 ≡ s = omega arith in
    ap (λ k. get_or (inner n x false) k (source 0 0)) e ∙ get_or-map-range_with_len (λ s. source (partner_of s x) s) 0 (stages n) s s (source 0 0) lt (omega arith)

pub inner_length : (n x : ℕ) (b : Bool) → length (inner n x b) ≡ stages n + shift b
inner_length n x true = omega (arith, length-map-range_with_len (λ s. source (partner_of s x) s) 0 (stages n))
inner_length n x false = omega (arith, length-map-range_with_len (λ s. source (partner_of s x) s) 0 (stages n))

-- there are four stages at most
pub few_stages : (n : ℕ) → 1 ≤ n → n ≤ 16 → stages n ≤ 4
few_stages n one few =
    elim (cases_lt 4 (stages n)) [
      | inl lt ↦ absurd (omega (arith, pow_below 4 (stages n) lt, (width_is_greatest n one).0))
      | inr ge ↦ ge
    ]

pub value_of_stage : (n : ℕ) (share : ℕ → Share) (owner stage : ℕ) → stage < 4 → value_at n share owner stage ≡ stage_value n share stage owner
value_of_stage n share owner stage lt =
    ap (λ b. cond b (share owner) (cond (stage == back_stage) (round_result n share) (stage_value n share stage owner))) (ne_eqb stage share_stage (λ e. omega (arith, e)))
    ∙ ap (λ b. cond b (round_result n share) (stage_value n share stage owner)) (ne_eqb stage back_stage (λ e. omega (arith, e)))

-- the values of these sources
abbrev Values : List Source → ℕ → (ℕ → Share) → List Share → Type 0
Values ss n share taken = (l : ℕ) → l < length taken → get_or taken l unknown ≡ value_at n share (get_or ss l (source 0 0)).owner (get_or ss l (source 0 0)).stage

-- has_outer of one within the width
outer_true : (n x : ℕ) → has_outer n x ≡ true → nat_lt (width n + x) n ≡ true
outer_true n x e = (and_parts (nat_lt x (width n)) (nat_lt (width n + x) n) e).1

outer_false : (n x : ℕ) → x < width n → has_outer n x ≡ false → nat_lt (width n + x) n ≡ false
outer_false n x within e = ap (λ b. b && nat_lt (width n + x) n) (sym (lt-ltb x (width n) within)) ∙ e

-- within the butterfly, the shares that are taken in come to the value of each stage
gather_from : (n x : ℕ) (share : ℕ → Share) (taken : List Share) (b : Bool) → 1 ≤ n → n ≤ 16 → x < width n → has_outer n x ≡ b → Values (inner n x b) n share taken
    → (s : ℕ) → s ≤ stages n → s + shift b ≤ length taken → fold share_sum (share x) (take (s + shift b) taken) ≡ stage_value n share s x
gather_from n x share taken true one few within outer values zero le has =
    ap (fold share_sum (share x)) (take_more taken 0 unknown (omega arith)) ∙ ap (share_sum (share x)) (values 0 (omega arith))
    ∙ sym (first_value n share x one within ∙ ap (λ b. cond b (share_sum (share x) (share (width n + x))) (share x)) (outer_true n x outer))
gather_from n x share taken false one few within outer values zero le has =
    sym (first_value n share x one within ∙ ap (λ b. cond b (share_sum (share x) (share (width n + x))) (share x)) (outer_false n x within outer))
gather_from n x share taken b one few within outer values (suc s) le has =
    let k = s + shift b in
    let e : suc s + shift b ≡ k + 1 = omega arith in
    let there : k < length taken = omega arith in
    let value : get_or taken k unknown ≡ stage_value n share s (partner_of s x) =
    values k there ∙ ap (λ (c : Source). value_at n share c.owner c.stage) (inner_at n x s b (omega arith)) ∙ value_of_stage n share (partner_of s x) s (omega (arith, few_stages n one few)) in
    ap (λ m. fold share_sum (share x) (take m taken)) e ∙ ap (fold share_sum (share x)) (take_more taken k unknown there) ∙ fold_push share_sum (share x) (take k taken) (get_or taken k unknown)
    ∙ ap (λ a. share_sum a (get_or taken k unknown)) (gather_from n x share taken b one few within outer values s (omega arith) (omega arith))
    ∙ ap (share_sum (stage_value n share s x)) value ∙ sym (next_value n share s x one within (omega arith)) ∙ ap (λ m. stage_value n share m x) next
  where
    next : s + 1 ≡ suc s
    next = omega arith

-- what x gathers, by whether it is an outer federate
abbrev by_place : ℕ → ℕ → Bool → Share → List Share → Share
by_place n x outer own taken = cond outer (handed_back own taken) (fold share_sum own taken)

abbrev pub places_by : ℕ → ℕ → Bool → Bool → List Source
places_by n x outer b = cond outer (source (x - width n) back_stage ∷ []) (inner n x b)

result_by : (n x : ℕ) (share : ℕ → Share) (taken : List Share) (outer : Bool) → 1 ≤ n → n ≤ 16 → is_outer n x ≡ outer
    → Values (places_by n x outer (has_outer n x)) n share taken → length taken ≡ length (places_by n x outer (has_outer n x)) → by_place n x outer (share x) taken ≡ round_result n share
result_by n x share taken true one few is values all = first taken values all
  where
    first : (ts : List Share) → Values (source (x - width n) back_stage ∷ []) n share ts → length ts ≡ 1 → handed_back (share x) ts ≡ round_result n share
    first [] values all = absurd (omega (arith, all))
    first (t ∷ ts) values all = values 0 (omega arith)
result_by n x share taken false one few is values all =
    let within : x < width n = ltb-true x (width n) (inside (nat_lt x (width n)) is) in
    let count : length taken ≡ stages n + shift (has_outer n x) = all ∙ inner_length n x (has_outer n x) in
    ap (fold share_sum (share x)) (sym (take_all (stages n + shift (has_outer n x)) taken (omega (arith, count))))
    ∙ gather_from n x share taken (has_outer n x) one few within refl values (stages n) (omega arith) (omega (arith, count))
    ∙ last_value n share x one within
  where
    inside : (b : Bool) → not b ≡ false → b ≡ true
    inside true e = refl
    inside false e = absurd (false≢true (sym e))

-- shares that are joined one by one
joined_list : (share : ℕ → Share) (own : Share) (ys : List ℕ)
    → fold share_sum own (map share ys) ≡ record { out = own.out + sum_by (λ y. (share y).out) ys; inn = own.inn + sum_by (λ y. (share y).inn) ys; low = least (λ y. (share y).low) own.low ys }
joined_list share own [] = ap (λ k. record own { out = k }) (omega arith) ∙ ap (λ k. record { out = own.out + 0; inn = k; low = own.low }) (omega arith)
joined_list share own (y ∷ ys) =
    joined_list share (share_sum own (share y)) ys
    ∙ ap (λ k. record { out = k; inn = own.inn + (share y).inn + sum_by (λ y. (share y).inn) ys; low = least (λ y. (share y).low) (min own.low (share y).low) ys }) outs
    ∙ ap (λ k. record { out = own.out + sum_by (λ y. (share y).out) (y ∷ ys); inn = k; low = least (λ y. (share y).low) (min own.low (share y).low) ys }) inns
  where
    outs : own.out + (share y).out + sum_by (λ y. (share y).out) ys ≡ own.out + sum_by (λ y. (share y).out) (y ∷ ys)
    outs = omega (arith, sum_by-cons (λ y. (share y).out) y ys)

    inns : own.inn + (share y).inn + sum_by (λ y. (share y).inn) ys ≡ own.inn + sum_by (λ y. (share y).inn) (y ∷ ys)
    inns = omega (arith, sum_by-cons (λ y. (share y).inn) y ys)

abbrev others : ℕ → ℕ → List ℕ
others n x = filter (λ j. not (j == x)) (everybody n)

either_apart : (b : Bool) → (b && not b) ≡ false
either_apart true = refl
either_apart false = refl

either_all : (b : Bool) → (b || not b) ≡ true
either_all true = refl
either_all false = refl

all_or : (n x : ℕ) → filter (λ j. (j == x) || not (j == x)) (everybody n) ≡ everybody n
all_or n x = all_pass (λ j. (j == x) || not (j == x)) 0 n (λ y low lt. either_all (y == x))

-- one and the others are everybody
sum_others : (f : ℕ → ℕ) (n x : ℕ) → x < n → f x + sum_by f (others n x) ≡ sum_by f (everybody n)
sum_others f n x lt =
    omega (
      arith,
      sum_either f (λ j. j == x) (λ j. not (j == x)) (everybody n) (λ y. either_apart (y == x)),
      ap (sum_by f) (all_or n x),
      ap (sum_by f) (one_passes x 0 n (omega arith) (omega arith)),
    )

least_others : (f : ℕ → ℕ) (n x : ℕ) → x < n → least f (f x) (others n x) ≡ least f (f 0) (everybody n)
least_others f n x lt =
    let a = f x in
    let split = least_either f (λ j. j == x) (λ j. not (j == x)) a a (everybody n) in
    let all = ap (least f (min a a)) (all_or n x) in
    let one = ap (least f a) (one_passes x 0 n (omega arith) (omega arith)) in
    let same : min a a ≡ a = omega arith in
    let whole = ap (λ k. least f k (everybody n)) same in
    let each : (y : ℕ) → y < n → least f (f 0) (everybody n) ≤ f y = λ y ly. subst (λ ys. least f (f 0) ys ≤ f y) (all_pass (λ _. true) 0 n (λ z low less. refl)) (least_le f (λ _. true) (f 0) y 0 n refl (omega arith) (omega arith)) in
    let each' : (y : ℕ) → y < n → least f a (everybody n) ≤ f y = λ y ly. subst (λ ys. least f a ys ≤ f y) (all_pass (λ _. true) 0 n (λ z low less. refl)) (least_le f (λ _. true) a y 0 n refl (omega arith) (omega arith)) in
    omega (
      arith,
      split,
      all,
      one,
      whole,
      least_le_start f a (others n x),
      least_from f a (least f (f 0) (everybody n)) 0 n (each x lt) (λ y ly. each y (omega arith)),
      least_from f (f 0) (least f a (everybody n)) 0 n (each' 0 (omega arith)) (λ y ly. each' y (omega arith)),
    )

-- in the flat scheme what is taken in are the shares of the others
flat_taken : (n x : ℕ) (share : ℕ → Share) (taken : List Share) → Values (sources Flat n x) n share taken → length taken ≡ length (sources Flat n x) → taken ≡ map share (others n x)
flat_taken n x share taken values all =
    let many : length taken ≡ length (others n x) = all ∙ length-map (others n x) (λ j. source j share_stage) in
    ext_get_or unknown taken (map share (others n x)) (omega (arith, many, length-map (others n x) share))
    (λ l lt.
    values l lt ∙ ap (λ (c : Source). value_at n share c.owner c.stage) (get_or-map (λ j. source j share_stage) (others n x) l 0 (source 0 0) (omega (arith, many)))
    ∙ sym (get_or-map share (others n x) l 0 unknown (omega (arith, many))))

flat_result : (n x : ℕ) (share : ℕ → Share) (taken : List Share) → x < n → Values (sources Flat n x) n share taken → length taken ≡ length (sources Flat n x)
    → fold share_sum (share x) taken ≡ round_result n share
flat_result n x share taken lt values all =
    ap (fold share_sum (share x)) (flat_taken n x share taken values all) ∙ joined_list share (share x) (others n x)
    ∙ ap (λ k. record { out = k; inn = (share x).inn + sum_by (λ y. (share y).inn) (others n x); low = least (λ y. (share y).low) (share x).low (others n x) }) (sum_others (λ y. (share y).out) n x lt)
    ∙ ap (λ k. record { out = sum_by (λ y. (share y).out) (everybody n); inn = k; low = least (λ y. (share y).low) (share x).low (others n x) }) (sum_others (λ y. (share y).inn) n x lt)
    ∙ ap (λ k. record { out = sum_by (λ y. (share y).out) (everybody n); inn = sum_by (λ y. (share y).inn) (everybody n); low = k }) (least_others (λ y. (share y).low) n x lt)

pub all_is_result : AllIsResult
all_is_result Flat n x share taken lt few values all = flat_result n x share taken lt values.each all
all_is_result Butterfly n x share taken lt few values all = result_by n x share taken (is_outer n x) (omega arith) few refl values.each all

-- the own share is published before anything is taken in
own_first : (scheme : Scheme) (n x : ℕ) (own : Share) (taken : List Share) → published_share scheme n x own taken share_stage ≡ own
own_first Flat n x own taken = refl
own_first Butterfly n x own taken = elim (is_outer n x) as (λ b. cond b own own ≡ own) [ true ↦ refl | false ↦ refl ]

pub published_are_values : PublishedAreValues
published_are_values Flat n x stage share taken lt few values does has =
    let e : stage ≡ share_stage = eqb-true stage share_stage does in
    subst (λ s. published_share Flat n x (share x) taken s ≡ value_at n share x s) (sym e) refl
published_are_values Butterfly n x stage share taken lt few values does has =
    elim (cases_eq stage share_stage) [
      | inl four ↦
          subst (λ s. published_share Butterfly n x (share x) taken s ≡ value_at n share x s) (sym four) (own_first Butterfly n x (share x) taken)
      | inr not_four ↦ elim (cases_eq stage back_stage) [
        | inl five ↦
            let full : length taken ≡ length (sources Butterfly n x) = omega (arith, values.few, subst (λ s. shares_needed Butterfly n x s ≤ length taken) five has) in
            subst (λ s. published_share Butterfly n x (share x) taken s ≡ value_at n share x s) (sym five)
            (ap (share_with_taken Butterfly n x (share x)) (take_all (length (sources Butterfly n x)) taken (omega (arith, full)))
            ∙ all_is_result Butterfly n x share taken lt few values full)
        | inr not_five ↦
            let four = ne_eqb stage share_stage not_four in
            let five = ne_eqb stage back_stage not_five in
            let early = stage_tests stage n x (is_outer n x) (stage == share_stage) (stage == back_stage) four five does in
            let within : x < width n = ltb-true x (width n) (inside (nat_lt x (width n)) early.1) in
            let count : shares_needed Butterfly n x stage ≡ stage + shift (has_outer n x) = needs stage (stage == share_stage) (stage == back_stage) (length (sources Butterfly n x)) (shift (has_outer n x)) four five in
            ap (λ k. share_with_taken Butterfly n x (share x) (take k taken)) count
            ∙ ap (λ b. by_place n x b (share x) (take (stage + shift (has_outer n x)) taken)) early.1
            ∙ gather_from n x share taken (has_outer n x) (omega arith) few within refl
            (subst (λ b. Values (places_by n x b (has_outer n x)) n share taken) early.1 values.each) stage early.2 (omega (arith, count, has))
            ∙ sym (value_of_stage n share x stage early.0)
      ]
    ]
  where
    inside : (b : Bool) → not b ≡ false → b ≡ true
    inside true e = refl
    inside false e = absurd (false≢true (sym e))

    needs : (stage : ℕ) (a b : Bool) (many one : ℕ) → a ≡ false → b ≡ false → cond a 0 (cond b many (stage + one)) ≡ stage + one
    needs stage a b many one ea eb = ap (λ t. cond t 0 (cond b many (stage + one))) ea ∙ ap (λ t. cond t many (stage + one)) eb

    outside : (b : Bool) → not b ≡ true → b ≡ false
    outside true e = absurd (false≢true e)
    outside false e = refl

    within : (stage n : ℕ) → (stage == 0 || nat_lt stage (stages n)) ≡ true → stage ≤ stages n
    within stage n e = elim (cases_eq stage 0) [
      | inl zero' ↦ omega (arith, zero')
      | inr ne ↦ omega (arith, ltb-true stage (stages n) (ap (λ b. b || nat_lt stage (stages n)) (sym (ne_eqb stage 0 ne)) ∙ e))
    ]

    stage_tests : (stage n x : ℕ) (outer a b : Bool) → a ≡ false → b ≡ false
        → (a || (b && has_outer n x) || (nat_lt stage share_stage && not outer && (stage == 0 || nat_lt stage (stages n)))) ≡ true → (stage < 4) × (outer ≡ false) × (stage ≤ stages n)
    stage_tests stage n x outer a b ea eb e =
        let h = has_outer n x in
        let last = stage == 0 || nat_lt stage (stages n) in
        let rest : (nat_lt stage share_stage && not outer && last) ≡ true = subst₂ (λ t u. (t || (u && h) || (nat_lt stage share_stage && not outer && last)) ≡ true) ea eb e in
        let both = and_parts (nat_lt stage share_stage && not outer) last rest in
        let tests = and_parts (nat_lt stage share_stage) (not outer) both.0 in
        (ltb-true stage share_stage tests.0, outside outer tests.1, within stage n both.1)
