-- The values of a butterfly.
use Rattle.std.proofs.Common.{◌≡◌, ◌≢◌, ℕ, ◌+◌, ◌<◌, ◌≤◌, min, Bool, true, cond, ◌==◌, ◌&&◌, ◌||◌, nat_lt, inl, inr, [], ◌∷◌, ◌++◌, arith, refl, sym, ap, subst, ◌∙◌}
use Rattle.std.specs.List.{filter}
use Rattle.std.proofs.lemmas.Bool.{cases_lt, lt-ltb, le-ltb, eq-eqb, or_right}
use Rattle.std.proofs.lemmas.Bool.Decides.{nat_tests}
use Rattle.std.proofs.lemmas.List.Sums.{sum_by-cons, sum_by_push, fold_push}
use Rattle.kit_model.specs.declared.share.Share.{Share}
use Rattle.kit_model.specs.Shares.{share_sum}
use Rattle.kit_model.specs.Blocks.{width, partner_of, in_block, everybody, block, share_sum_over, round_result}
use Rattle.kit_model.specs.BlockLaws.{OneShare, OneMoreShare, GroupsJoin, GroupsDecide, GroupsStayWithin, FirstValue, NextValue, LastValue, BlockDecides}
use Rattle.kit_model.proofs.Widths.{there_is}
use Rattle.kit_model.proofs.Rows.{rows_apart, first_block, next_block, partners_are_apart, partners_are_within, in_own_block, last_block}
use Rattle.kit_model.proofs.Sieves.{same_pass, all_pass, one_passes, sum_either, sum_agrees, sum_passes_le, least, least_either, least_le, least_le_start, least_start, least_agrees}

-- shares with the same parts are the same
same_share : (a b : Share) → a.out ≡ b.out → a.inn ≡ b.inn → a.low ≡ b.low → a ≡ b
same_share a b o i l =
    let made : ℕ → ℕ → ℕ → Share = λ x y z. record { out = x; inn = y; low = z } in
    ap (λ x. made x a.inn a.low) o ∙ ap (λ y. made b.out y a.low) i ∙ ap (λ z. made b.out b.inn z) l

-- the parts of shares
abbrev outs : (ℕ → Share) → ℕ → ℕ
outs share y = (share y).out

abbrev inns : (ℕ → Share) → ℕ → ℕ
inns share y = (share y).inn

abbrev lows : (ℕ → Share) → ℕ → ℕ
lows share y = (share y).low

pub one_share : OneShare
one_share share x =
    same_share (share_sum_over share x (x ∷ [])) (share x) (omega (arith, sum_by-cons (outs share) x [])) (omega (arith, sum_by-cons (inns share) x [])) (omega arith)

pub one_more_share : OneMoreShare
one_more_share share one y ys =
    same_share (share_sum_over share one (ys ++ y ∷ [])) (share_sum (share_sum_over share one ys) (share y))
    (sum_by_push (outs share) ys y) (sum_by_push (inns share) ys y) (fold_push (λ low z. min low (lows share z)) (lows share one) ys y)

-- the least over what passes one of two tests, where the second's beginning is among it
least_union : (f : ℕ → ℕ) (p q : ℕ → Bool) (n a y : ℕ) → y < n → q y ≡ true
    → least f a (filter (λ z. p z || q z) (everybody n)) ≡ min (least f a (filter p (everybody n))) (least f (f y) (filter q (everybody n)))
least_union f p q n a y yn h =
    let both = filter (λ z. p z || q z) (everybody n) in
    let low : least f a both ≤ f y = least_le f (λ z. p z || q z) a y 0 n (or_right (p y) (q y) h) (omega arith) (omega arith) in
    omega (arith, least_either f p q a (f y) (everybody n), least_start f a (f y) both, low)

-- two sets of federates that share nobody, given by tests
pub groups_join_law : GroupsJoin
groups_join_law n share p q x y yn h apart =
    same_share (share_sum_over share x (filter (λ z. p z || q z) (everybody n))) (share_sum (share_sum_over share x (filter p (everybody n))) (share_sum_over share y (filter q (everybody n))))
    (sum_either (outs share) p q (everybody n) apart)
    (sum_either (inns share) p q (everybody n) apart)
    (least_union (lows share) p q n (lows share x) y yn h)

-- a federate alone, given by a test
alone : (share : ℕ → Share) (n x : ℕ) → x < n → share_sum_over share x (filter (λ z. z == x) (everybody n)) ≡ share x
alone share n x lt = ap (share_sum_over share x) (one_passes x 0 n (omega arith) (omega arith)) ∙ one_share share x

two_together : (share : ℕ → Share) (n x y : ℕ) → x < n → y < n → x ≢ y
    → share_sum_over share x (filter (λ z. (z == x) || (z == y)) (everybody n)) ≡ share_sum (share x) (share y)
two_together share n x y xn yn ne =
    groups_join_law n share (λ z. z == x) (λ z. z == y) x y yn (eq-eqb y y refl) (λ z. rows_apart z x y ne)
    ∙ ap (λ s. share_sum s (share_sum_over share y (filter (λ z. z == y) (everybody n)))) (alone share n x xn) ∙ ap (share_sum (share x)) (alone share n y yn)

-- a federate that stands for no outer one
no_outer : (n w x y : ℕ) → y < n → n ≤ w + x → (nat_lt y n && ((y == x) || (y == w + x))) ≡ (y == x)
no_outer n w x y lt le = grind (arith, nat_tests)

pub first_value : FirstValue
first_value n share x one within =
    let w = width n in
    let here : x < n = there_is n x one within in
    elim (cases_lt (w + x) n) [
      | inl lt ↦
          let ne : x ≢ w + x = λ e. omega (arith, e) in
          let is : block n 0 x ≡ filter (λ z. (z == x) || (z == w + x)) (everybody n) =
          same_pass (in_block n 0 x) (λ z. (z == x) || (z == w + x)) 0 n
          (λ y low below. first_block n x y within ∙ ap (λ t. t && ((y == x) || (y == w + x))) (lt-ltb y n (omega arith))) in
          ap (share_sum_over share x) is ∙ two_together share n x (w + x) here lt ne ∙ ap (λ b. cond b (share_sum (share x) (share (w + x))) (share x)) (sym (lt-ltb (w + x) n lt))
      | inr le ↦
          let is : block n 0 x ≡ filter (λ z. z == x) (everybody n) =
          same_pass (in_block n 0 x) (λ z. z == x) 0 n (λ y low below. first_block n x y within ∙ no_outer n w x y (omega arith) le) in
          ap (share_sum_over share x) is ∙ alone share n x here
          ∙ ap (λ b. cond b (share_sum (share x) (share (w + x))) (share x)) (sym (le-ltb (w + x) n le))
    ]

pub next_value : NextValue
next_value n share stage x one within lt =
    let y = partner_of stage x in
    let p = in_block n stage x in
    let q = in_block n stage y in
    let there : y < width n = partners_are_within n stage x within lt in
    let yn : y < n = there_is n y one there in
    let is : block n (stage + 1) x ≡ filter (λ z. p z || q z) (everybody n) = same_pass (in_block n (stage + 1) x) (λ z. p z || q z) 0 n (λ z low below. next_block n stage x z) in
    ap (share_sum_over share x) is ∙ groups_join_law n share p q x y yn (in_own_block n stage y one there) (λ z. partners_are_apart n stage x z)

-- the least over everybody is the same, whoever it begins with
least_of_all : (f : ℕ → ℕ) (n x : ℕ) → x < n → least f (f x) (everybody n) ≡ least f (f 0) (everybody n)
least_of_all f n x lt =
    let all : filter (λ _. true) (everybody n) ≡ everybody n = all_pass (λ _. true) 0 n (λ y low below. refl) in
    let upper : (a y : ℕ) → y < n → least f a (everybody n) ≤ f y =
    λ a y yn. subst (λ ys. least f a ys ≤ f y) all (least_le f (λ _. true) a y 0 n refl (omega arith) (omega arith)) in
    let swap : least f (min (f x) (f 0)) (everybody n) ≡ least f (min (f 0) (f x)) (everybody n) = ap (λ m. least f m (everybody n)) (omega arith) in
    omega (arith, least_start f (f x) (f 0) (everybody n), least_start f (f 0) (f x) (everybody n), swap, upper (f x) 0 (omega arith), upper (f 0) x lt)

pub last_value : LastValue
last_value n share x one within =
    let xn : x < n = there_is n x one within in
    ap (share_sum_over share x) (last_block n x one within)
    ∙ same_share (share_sum_over share x (everybody n)) (round_result n share) refl refl (least_of_all (lows share) n x xn)

pub groups_stay_within : GroupsStayWithin
groups_stay_within n share p x =
    (sum_passes_le (outs share) p (everybody n), sum_passes_le (inns share) p (everybody n), least_le_start (lows share) (lows share x) (filter p (everybody n)))

pub groups_decide : GroupsDecide
groups_decide n share other p x here h =
    same_share (share_sum_over share x (filter p (everybody n))) (share_sum_over other x (filter p (everybody n)))
    (sum_agrees (outs share) (outs other) p 0 n (λ y le lt e. ap (λ (s : Share). s.out) (h y (omega arith) e)))
    (sum_agrees (inns share) (inns other) p 0 n (λ y le lt e. ap (λ (s : Share). s.inn) (h y (omega arith) e)))
    (least_agrees (lows share) (lows other) p (lows share x) 0 n (λ y le lt e. ap (λ (s : Share). s.low) (h y (omega arith) e))
    ∙ ap (λ a. least (lows other) a (filter p (everybody n))) (ap (λ (s : Share). s.low) here))

pub block_decides : BlockDecides
block_decides n share other stage x one within h =
    let xn : x < n = there_is n x one within in
    groups_decide n share other (in_block n stage x) x (h x xn (in_own_block n stage x one within)) h
