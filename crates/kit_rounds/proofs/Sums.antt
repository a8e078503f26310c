-- Sums over everybody.
use Rattle.std.proofs.Common.{◌≡◌, ℕ, zero, suc, ◌+◌, ◌<◌, ◌≤◌, cond, ◌==◌, inl, inr, List, [], ◌∷◌, arith, refl, sym, ap, ◌∙◌, eq-eqb}
use Rattle.std.specs.List.{range_with_len, sum_by}
use Rattle.std.proofs.lemmas.Bool.{cases_eq, ne_eqb}
use Rattle.std.proofs.lemmas.List.Sums.{sum_by-cons}
use Rattle.kit_model.specs.Blocks.{everybody}

same_from : (f g : ℕ → ℕ) (low len : ℕ) → ((y : ℕ) → y < low + len → f y ≡ g y) → sum_by f (range_with_len low len) ≡ sum_by g (range_with_len low len)
same_from f g low zero h = refl
same_from f g low (suc len) h =
    let rest : sum_by f (range_with_len (low + 1) len) ≡ sum_by g (range_with_len (low + 1) len) = same_from f g (low + 1) len (λ y lt. h y (omega arith)) in
    omega (arith, sum_by-cons f low (range_with_len (low + 1) len), sum_by-cons g low (range_with_len (low + 1) len), h low (omega arith))

-- sums whose terms agree
pub sum_same : (f g : ℕ → ℕ) (n : ℕ) → ((y : ℕ) → y < n → f y ≡ g y) → sum_by f (everybody n) ≡ sum_by g (everybody n)
sum_same f g n h = same_from f g 0 n (λ y lt. h y (omega arith))

pub sum_plus : (f g : ℕ → ℕ) (xs : List ℕ) → sum_by (λ y. f y + g y) xs ≡ sum_by f xs + sum_by g xs
sum_plus f g [] = refl
sum_plus f g (x ∷ xs) = omega (arith, sum_by-cons (λ y. f y + g y) x xs, sum_by-cons f x xs, sum_by-cons g x xs, sum_plus f g xs)

pub sum_zero : (f : ℕ → ℕ) (xs : List ℕ) → ((y : ℕ) → f y ≡ 0) → sum_by f xs ≡ 0
sum_zero f [] h = refl
sum_zero f (x ∷ xs) h = omega (arith, sum_by-cons f x xs, sum_zero f xs h, h x)

-- a double sum may be taken the other way round
pub sum_swap : (f : ℕ → ℕ → ℕ) (xs ys : List ℕ) → sum_by (λ x. sum_by (f x) ys) xs ≡ sum_by (λ y. sum_by (λ x. f x y) xs) ys
sum_swap f [] ys = sym (sum_zero (λ y. 0) ys (λ y. refl))
sum_swap f (x ∷ xs) ys =
    sum_by-cons (λ x. sum_by (f x) ys) x xs ∙ ap (λ s. sum_by (f x) ys + s) (sum_swap f xs ys)
    ∙ sym (sum_plus (f x) (λ y. sum_by (λ x. f x y) xs) ys)
    ∙ sym (agree ys)
  where
    agree : (zs : List ℕ) → sum_by (λ y. sum_by (λ x. f x y) (x ∷ xs)) zs ≡ sum_by (λ y. f x y + sum_by (λ x. f x y) xs) zs
    agree [] = refl
    agree (z ∷ zs) =
        omega (arith, sum_by-cons (λ y. sum_by (λ x. f x y) (x ∷ xs)) z zs, sum_by-cons (λ y. f x y + sum_by (λ x. f x y) xs) z zs, sum_by-cons (λ x. f x z) x xs, agree zs)

at_most_from : (f : ℕ → ℕ) (y low len : ℕ) → low ≤ y → y < low + len → f y ≤ sum_by f (range_with_len low len)
at_most_from f y low zero le lt = absurd (omega arith)
at_most_from f y low (suc len) le lt =
    elim (cases_eq low y) [
      | inl e ↦ omega (arith, sum_by-cons f low (range_with_len (low + 1) len), ap f e)
      | inr ne ↦
          let above : low + 1 ≤ y = grind (arith, ne) in
          omega (arith, sum_by-cons f low (range_with_len (low + 1) len), at_most_from f y (low + 1) len above (omega arith))
    ]

-- a term is at most the sum
pub term_at_most : (f : ℕ → ℕ) (n y : ℕ) → y < n → f y ≤ sum_by f (everybody n)
term_at_most f n y lt = at_most_from f y 0 n (omega arith) (omega arith)

none_from : (x b low len : ℕ) → x < low → sum_by (λ j. cond (x == j) b 0) (range_with_len low len) ≡ 0
none_from x b low zero lt = refl
none_from x b low (suc len) lt =
    let here : cond (x == low) b 0 ≡ 0 = ap (λ t. cond t b 0) (ne_eqb x low (λ e. omega (arith, e))) in
    omega (arith, sum_by-cons (λ j. cond (x == j) b 0) low (range_with_len (low + 1) len), none_from x b (low + 1) len (omega arith))

one_from : (x b low len : ℕ) → low ≤ x → x < low + len → sum_by (λ j. cond (x == j) b 0) (range_with_len low len) ≡ b
one_from x b low zero le lt = absurd (omega arith)
one_from x b low (suc len) le lt =
    elim (cases_eq x low) [
      | inl e ↦
          let here : cond (x == low) b 0 ≡ b = ap (λ t. cond t b 0) (eq-eqb x low e) in
          omega (arith, sum_by-cons (λ j. cond (x == j) b 0) low (range_with_len (low + 1) len), none_from x b (low + 1) len (omega (arith, e)))
      | inr ne ↦
          let here : cond (x == low) b 0 ≡ 0 = ap (λ t. cond t b 0) (ne_eqb x low ne) in
          let above : low + 1 ≤ x = grind (arith, ne) in
          omega (arith, sum_by-cons (λ j. cond (x == j) b 0) low (range_with_len (low + 1) len), one_from x b (low + 1) len above (omega arith))
    ]

-- one term alone is the sum
pub sum_one : (n x b : ℕ) → x < n → sum_by (λ j. cond (x == j) b 0) (everybody n) ≡ b
sum_one n x b lt = one_from x b 0 n (omega arith) (omega arith)
