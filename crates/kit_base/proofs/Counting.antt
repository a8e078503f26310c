-- How many elements of a list pass a test.
use Rattle.std.proofs.Common.{◌≡◌, ℕ, ◌+◌, ◌<◌, Bool, true, false, cond, ⊎_elim, List, [], ◌∷◌, ap, ◌∙◌, arith}
use Rattle.std.specs.List.{count_by, list_any, Contains}
use Rattle.std.proofs.lemmas.Bool.{or_cases}
use Rattle.std.proofs.lemmas.List.Sums.{sum_by-cons}
use Rattle.std.proofs.lemmas.List.Folds.{list_any_at}

-- 1 where a test passes
abbrev pub one_if : Bool → ℕ
one_if b = cond b 1 0

pub one_true : (b : Bool) → b ≡ true → one_if b ≡ 1
one_true b e = ap one_if e

pub one_false : (b : Bool) → b ≡ false → one_if b ≡ 0
one_false b e = ap one_if e

module _ {X : Type 0} where
  -- a step of a count
  pub count_cons : (p : X → Bool) (x : X) (xs : List X) → count_by p (x ∷ xs) ≡ one_if (p x) + count_by p xs
  count_cons p x xs = sum_by-cons (λ x. one_if (p x)) x xs

  -- where some element passes, one counts
  pub count_any : (p : X → Bool) (xs : List X) → list_any p xs ≡ true → 0 < count_by p xs
  count_any p [] h = absurd (cc)
  count_any p (x ∷ xs) h = ⊎_elim
      (λ (e : p x ≡ true). let c = count_cons p x xs in let o = one_true (p x) e in omega arith)
      (λ (e : list_any p xs ≡ true). let c = count_cons p x xs in let r = count_any p xs e in omega arith)
      (or_cases (p x) (list_any p xs) h)

  -- an element that passes counts
  pub count_has : (p : X → Bool) (xs : List X) (x : X) → Contains xs x → p x ≡ true → 0 < count_by p xs
  count_has p xs x has passes = count_any p xs (list_any_at p xs has.0 x has.1 (ap p has.2 ∙ passes))
