-- Lists that are made of the numbers from 0 on.
use Rattle.std.proofs.Common.{◌≡◌, ◌≢◌, ℕ, ◌+◌, ◌-◌, ◌<◌, ◌≤◌, List, [], ◌∷◌, ◌++◌, map, length, Bool, true, sym, ap, ◌∙◌, subst, All, AllPairs, get_or, arith}
use Rattle.std.specs.List.{range_with_len, list_all}
use Rattle.std.proofs.lemmas.List.FromFn.{length-range_with_len, length-map-range_with_len, map-range_with_len_more, get_or-range_with_len, get_or-map-range_with_len}
use Rattle.std.proofs.lemmas.List.Sums.{AllPass-from_list_all}

-- a test that each of n numbers from a on passes, each passes
pub passes_in : (p : ℕ → Bool) (a n k : ℕ) → list_all p (range_with_len a n) ≡ true → a ≤ k → k < a + n → p k ≡ true
passes_in p a n k all low high =
    let place : a + (k - a) ≡ k = omega (arith, low) in
    subst (λ j. p j ≡ true) (get_or-range_with_len a n (k - a) 0 (omega (arith, low, high)) ∙ place)
    (AllPass-from_list_all p (range_with_len a n) all (k - a) 0 (omega (arith, low, high, length-range_with_len a n)))

module _ {X : Type 0} (f : ℕ → X) (n : ℕ) where
  made : (k : ℕ) (d : X) → k < length (map f (range_with_len 0 n)) → (get_or (map f (range_with_len 0 n)) k d ≡ f k) × (k < n)
  made k d short = let low : k < n = omega (arith, short, length-map-range_with_len f 0 n) in (get_or-map-range_with_len f 0 n k k d low (omega arith), low)

  -- what holds of each that is made, holds of the list
  pub all_made : (P : X → Type 0) → ((k : ℕ) → k < n → P (f k)) → All P (map f (range_with_len 0 n))
  all_made P each k d short = let m = made k d short in subst P (sym m.0) (each k m.1)

  -- where different numbers make what is named differently, the names differ
  pub names_differ : (name : X → List ℕ) → ((i j : ℕ) → i < j → j < n → name (f i) ≢ name (f j)) → AllPairs (λ a b. name a ≢ name b) (map f (range_with_len 0 n))
  names_differ name differ i j d before short = let m = made j d short in let k = made i d (omega (arith, before, short)) in
      λ same. differ i j before m.1 (ap name (sym k.0) ∙ same ∙ ap name m.0)

  -- a list that is so made grows by the next
  pub one_more : (xs ys : List X) (x : X) → xs ≡ map f (range_with_len 0 n) → x ≡ f n → ys ≡ xs ++ x ∷ [] → ys ≡ map f (range_with_len 0 (n + 1))
  one_more xs ys x so_far next push =
      push ∙ ap (λ l. l ++ x ∷ []) so_far ∙ ap (λ y. map f (range_with_len 0 n) ++ y ∷ []) next ∙ sym (map-range_with_len_more f 0 n n (omega arith))
