-- Lists that rise, where a test of all is a test of the last.
use Rattle.std.proofs.Common.{◌≡◌, ℕ, inl, inr, ◌-◌, ◌<◌, ◌≤◌, Bool, true, false, List, [], ◌∷◌, ◌++◌, length, get_or, arith, refl, subst, nat_lt}
use Rattle.std.specs.List.{AllPairs, list_all}
use Rattle.std.proofs.lemmas.Bool.{cases_lt, lt-ltb, ltb-true}
use Rattle.std.proofs.lemmas.List.{get_or_default}
use Rattle.std.proofs.lemmas.List.Folds.{list_all_at}
use Rattle.std.proofs.lemmas.List.Sums.{AllPass-from_list_all, list_all-from_AllPass}
use Rattle.std.proofs.lemmas.List.Quantifiers.{all_pairs_push}
use Rattle.kit_rules.specs.declared.own.Own.{Own}
use Rattle.kit_restore.specs.CutWalk.{has_risen}

-- where a test that the last passes is passed by all before it, it is a test of the last
pub all_by_last : {X : Type 0} (R : X → X → Type 0) (test : X → Bool) → ((a b : X) → R a b → test b ≡ true → test a ≡ true) → (xs : List X) (z : X) → AllPairs R xs → 1 ≤ length xs
    → list_all test xs ≡ test (get_or xs (length xs - 1) z)
all_by_last {X} R test down xs z rise some = by (test (get_or xs (length xs - 1) z)) refl
  where
    before : test (get_or xs (length xs - 1) z) ≡ true → (k : ℕ) → k < length xs → test (get_or xs k z) ≡ true
    before is k lt = elim (cases_lt k (length xs - 1)) [
      | inl far ↦ down _ _ (rise k (length xs - 1) z far (omega arith)) is
      | inr near ↦ (let T : ℕ → Type 0 = λ n. test (get_or xs n z) ≡ true in subst T (let e : length xs - 1 ≡ k = omega arith in e) is)
    ]

    by : (b : Bool) → test (get_or xs (length xs - 1) z) ≡ b → list_all test xs ≡ b
    by true is = list_all-from_AllPass test xs (λ k d lt. (let S : X → Type 0 = λ x. test x ≡ true in subst S (get_or_default xs k z d lt) (before is k lt)))
    by false is = list_all_at test xs (length xs - 1) z (omega arith) is

-- a number greater than that of the last is greater than all
pub risen_by_last : (xs : List Own) (z : Own) (n : ℕ) → AllPairs (λ (a b : Own). a.number < b.number) xs → 1 ≤ length xs
    → list_all (λ (b : Own). nat_lt b.number n) xs ≡ nat_lt (get_or xs (length xs - 1) z).number n
risen_by_last xs z n rise some = all_by_last (λ (a b : Own). a.number < b.number) (λ (b : Own). nat_lt b.number n) (λ a b lt is. lt-ltb a.number n (let below : b.number < n = ltb-true b.number n is in omega arith)) xs z rise some

-- one more, with a greater number
pub one_more_own : (xs : List Own) (y : Own) → AllPairs (λ (a b : Own). a.number < b.number) xs → has_risen xs y ≡ true → AllPairs (λ (a b : Own). a.number < b.number) (xs ++ y ∷ [])
one_more_own xs y rise risen = all_pairs_push (λ (a b : Own). a.number < b.number) xs y rise (λ k d lt. ltb-true _ _ (AllPass-from_list_all (λ (b : Own). nat_lt b.number y.number) xs risen k d lt))
