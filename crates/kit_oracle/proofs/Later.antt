-- How many times are later, while times are put in and taken out.
use Rattle.std.proofs.Common.{◌≡◌, ℕ, inl, inr, suc, ◌+◌, ◌<◌, ◌≤◌, true, false, cond, ◌&&◌, List, [], ◌∷◌, length, map, take, get_or, nat_lt, nat_eq, Option, Some, None, IfSome, IsSome, arith, refl, sym, subst, ap, ◌∙◌}
use Rattle.std.specs.List.{AllByRecursion, sum_by}
use Rattle.std.specs.List.Sorted.{IsPermutation}
use Rattle.std.specs.Ordering.{nat_cmp, is_lt}
use Rattle.std.specs.declared.cmp.Ordering.TheVariants.{Less, Equal, Greater}
use Rattle.std.proofs.lemmas.Bool.{lt-ltb, le-ltb, cases_lt}
use Rattle.std.proofs.lemmas.List.{length-map, take_more}
use Rattle.std.proofs.lemmas.List.Sums.{sum_by-cons}
use Rattle.std.proofs.lemmas.List.Sorted.{length_permutation, sum_by_pushed, sum_by_popped}
use Rattle.kit_base.specs.declared.message.Message.{Message}
use Rattle.kit_rules.specs.Parts.{Parts}
use Rattle.kit_rules.specs.Delivery.{is_transported}
use Rattle.kit_laws.proofs.Needs.{count_by-append}
use Rattle.kit_oracle.specs.Times.{count_later, is_later, count_sent_later}

-- one more time counts where it is later
pub later-cons : (t x : ℕ) (xs : List ℕ) → count_later t (x ∷ xs) ≡ cond (nat_lt t x) 1 0 + count_later t xs
later-cons t x xs = sum_by-cons (λ x. cond (nat_lt t x) 1 0) x xs

module _ {X : Type 0} (f : X → ℕ) where
  -- whether one counts
  abbrev counts : ℕ → X → ℕ
  counts t x = cond (nat_lt t (f x)) 1 0

  later-map : (t : ℕ) (xs : List X) → count_later t (map f xs) ≡ sum_by (counts t) xs
  later-map t [] = refl
  later-map t (x ∷ xs) = later-cons t (f x) (map f xs) ∙ ap (λ n. counts t x + n) (later-map t xs) ∙ sym (sum_by-cons (counts t) x xs)

  -- one is put in
  pub later_pushed : (t : ℕ) (x : X) (xs ys : List X) → IsPermutation (x ∷ xs) ys → count_later t (map f ys) ≡ count_later t (f x ∷ map f xs)
  later_pushed t x xs ys h =
      later-map t ys ∙ sum_by_pushed (counts t) x xs ys h ∙ ap (λ n. counts t x + n) (sym (later-map t xs)) ∙ sym (later-cons t (f x) (map f xs))

  -- one that is not later is taken out
  pub later_popped : (by t : ℕ) (x : X) (xs ys : List X) → IsPermutation xs (x ∷ ys) → f x ≤ by → by ≤ t → count_later t (map f ys) ≡ count_later t (map f xs)
  later_popped by t x xs ys h le up =
      let zero : counts t x ≡ 0 = ap (λ b. cond b 1 0) (le-ltb t (f x) (omega arith)) in
      let both : sum_by (counts t) ys + counts t x ≡ sum_by (counts t) xs = sum_by_popped (counts t) x xs ys h in
      later-map t ys ∙ (let same : sum_by (counts t) ys ≡ sum_by (counts t) xs = omega (arith, both, zero) in same) ∙ sym (later-map t xs)

  -- where none is less than one that is later, all are
  pub all_later : (by : ℕ) (x : X) (ys : List X) → by < f x → AllByRecursion (λ y. is_lt (nat_cmp (f y) (f x)) ≡ false) ys → length (map f ys) ≡ count_later by (map f ys)
  all_later by x [] lt h = refl
  all_later by x (y ∷ ys) lt h =
      let up : f x ≤ f y = not_less (f y) (f x) h.0 in
      let one : counts by y ≡ 1 = ap (λ b. cond b 1 0) (lt-ltb by (f y) (omega arith)) in
      let rest : length (map f ys) ≡ count_later by (map f ys) = all_later by x ys lt h.1 in
      let all : suc (length (map f ys)) ≡ counts by y + count_later by (map f ys) = omega (arith, one, rest) in
      all ∙ sym (later-cons by (f y) (map f ys))
    where
      not_less : (a b : ℕ) → is_lt (nat_cmp a b) ≡ false → b ≤ a
      not_less a b e = elim (cases_lt a b) [ inl lt ↦ absurd (let t : nat_lt a b ≡ true = lt-ltb a b lt in let s : is_lt (nat_cmp a b) ≡ true = ap (λ c. is_lt (cond c Less (cond (nat_eq a b) Equal Greater))) t in cc) | inr ge ↦ ge ]

  -- what a heap gives where it has a first element
  pub first_taken : (xs ys : List X) (o : Option X) (x : X) → x ≡ get_or xs 0 x → IsSome o → IfSome o (λ y. y ≡ get_or xs 0 y) → IfSome o (λ y. IsPermutation xs (y ∷ ys)) → IsPermutation xs (x ∷ ys)
  first_taken xs ys None x is some top h = absurd (cc)
  first_taken [] ys (Some y) x is some top h = absurd (omega (arith, length_permutation [] (y ∷ ys) h))
  first_taken (z ∷ zs) ys (Some y) x is some top h =
      let P : X → Type 0 = λ w. IsPermutation (z ∷ zs) (w ∷ ys) in
      let same : y ≡ x = top ∙ sym is in
      subst P same h

  -- so there is one fewer
  pub fewer_taken : (xs ys : List X) (x : X) → IsPermutation xs (x ∷ ys) → length (map f ys) < length (map f xs)
  fewer_taken xs ys x h = omega (arith, length_permutation xs (x ∷ ys) h, length-map xs f, length-map ys f)

-- a transported message adds its time
pub later_sent : (p : Parts) (t : ℕ) (m : Message) (old new : List ℕ) → is_transported p m ≡ true → count_later t new ≡ count_later t (m.time ∷ old) → count_later t new ≡ count_later t old + count_sent_later p t (m ∷ [])
later_sent p t m old new e h =
    let one : count_sent_later p t (m ∷ []) ≡ 0 + counts (λ (x : ℕ). x) t m.time = ap (λ b. 0 + cond (b && nat_lt t m.time) 1 0) e in
    omega (arith, h, later-cons t m.time old, one)

-- another adds none
pub later_unsent : (p : Parts) (t : ℕ) (m : Message) → is_transported p m ≡ false → count_sent_later p t (m ∷ []) ≡ 0
later_unsent p t m e = ap (λ b. 0 + cond (b && nat_lt t m.time) 1 0) e

-- one more message of a list
pub sent_more : (p : Parts) (t k : ℕ) (ms : List Message) (d : Message) → k < length ms → count_sent_later p t (take (k + 1) ms) ≡ count_sent_later p t (take k ms) + count_sent_later p t (get_or ms k d ∷ [])
sent_more p t k ms d lt = ap (count_sent_later p t) (take_more ms k d lt) ∙ count_by-append (is_later p t) (take k ms) (get_or ms k d ∷ [])
