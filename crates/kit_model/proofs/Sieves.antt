-- What passes a test, and sums and least numbers over it.
use Rattle.std.proofs.Common.{◌≡◌, ℕ, zero, suc, ◌+◌, ◌<◌, ◌≤◌, min, Bool, true, false, cond, ◌==◌, ◌&&◌, ◌||◌, inl, inr, List, [], ◌∷◌, fold, arith, refl, sym, ap, subst, ◌∙◌, eq-eqb}
use Rattle.std.specs.List.{filter, range_with_len, sum_by}
use Rattle.std.proofs.lemmas.Bool.{cases_eq, cases_lt, ne_eqb, false≢true}
use Rattle.std.proofs.lemmas.List.Sums.{sum_by-cons}

-- all numbers from `low` on pass
pub all_pass : (p : ℕ → Bool) (low len : ℕ) → ((y : ℕ) → low ≤ y → y < low + len → p y ≡ true) → filter p (range_with_len low len) ≡ range_with_len low len
all_pass p low zero h = refl
all_pass p low (suc len) h =
    ap (λ b. cond b (low ∷ filter p (range_with_len (low + 1) len)) (filter p (range_with_len (low + 1) len))) (h low (omega arith) (omega arith))
    ∙ ap (λ ys. low ∷ ys) (all_pass p (low + 1) len (λ y le lt. h y (omega arith) (omega arith)))

-- tests that agree on all numbers from `low` on let the same pass
pub same_pass : (p q : ℕ → Bool) (low len : ℕ) → ((y : ℕ) → low ≤ y → y < low + len → p y ≡ q y) → filter p (range_with_len low len) ≡ filter q (range_with_len low len)
same_pass p q low zero h = refl
same_pass p q low (suc len) h =
    let rest : filter p (range_with_len (low + 1) len) ≡ filter q (range_with_len (low + 1) len) = same_pass p q (low + 1) len (λ y le lt. h y (omega arith) (omega arith)) in
    ap (λ b. cond b (low ∷ filter p (range_with_len (low + 1) len)) (filter p (range_with_len (low + 1) len))) (h low (omega arith) (omega arith))
    ∙ ap (λ ys. cond (q low) (low ∷ ys) ys) rest

-- no number below `low` is met
pub none_passes : (x low len : ℕ) → x < low → filter (λ y. y == x) (range_with_len low len) ≡ []
none_passes x low zero lt = refl
none_passes x low (suc len) lt =
    ap (λ b. cond b (low ∷ filter (λ y. y == x) (range_with_len (low + 1) len)) (filter (λ y. y == x) (range_with_len (low + 1) len))) (ne_eqb low x (λ e. omega (arith, e)))
    ∙ none_passes x (low + 1) len (omega arith)

-- a number that is not the first comes after it
after : (a b : ℕ) → a ≤ b → (a ≡ b → ⊥) → a + 1 ≤ b
after a b le ne = elim (cases_lt a b) [ inl lt ↦ omega arith | inr ge ↦ absurd (ne (omega arith)) ]

-- one number is met once
pub one_passes : (x low len : ℕ) → low ≤ x → x < low + len → filter (λ y. y == x) (range_with_len low len) ≡ x ∷ []
one_passes x low zero le lt = absurd (omega arith)
one_passes x low (suc len) le lt =
    let rest = filter (λ y. y == x) (range_with_len (low + 1) len) in
    elim (cases_eq low x) [
      | inl e ↦
          ap (λ b. cond b (low ∷ rest) rest) (eq-eqb low x e)
          ∙ ap (λ ys. low ∷ ys) (none_passes x (low + 1) len (omega (arith, e))) ∙ ap (λ y. y ∷ []) e
      | inr ne ↦ ap (λ b. cond b (low ∷ rest) rest) (ne_eqb low x ne) ∙ one_passes x (low + 1) len (after low x le ne) (omega arith)
    ]

-- the sum over what passes is no greater than over all
pub sum_passes_le : (f : ℕ → ℕ) (p : ℕ → Bool) (xs : List ℕ) → sum_by f (filter p xs) ≤ sum_by f xs
sum_passes_le f p [] = omega arith
sum_passes_le f p (x ∷ xs) =
    let rest : sum_by f (filter p xs) ≤ sum_by f xs = sum_passes_le f p xs in
    elim (p x) as (λ b. sum_by f (cond b (x ∷ filter p xs) (filter p xs)) ≤ sum_by f (x ∷ xs)) [
      | true ↦ omega (arith, sum_by-cons f x (filter p xs), sum_by-cons f x xs)
      | false ↦ omega (arith, sum_by-cons f x xs)
    ]

-- one more element, which passes one of two tests at most
sum_step : (f : ℕ → ℕ) (x : ℕ) (both ps qs : List ℕ) (a b : Bool) → sum_by f both ≡ sum_by f ps + sum_by f qs → (a && b) ≡ false
    → sum_by f (cond (a || b) (x ∷ both) both) ≡ sum_by f (cond a (x ∷ ps) ps) + sum_by f (cond b (x ∷ qs) qs)
sum_step f x both ps qs true true rest h = absurd (false≢true (sym h))
sum_step f x both ps qs true false rest h = omega (arith, sum_by-cons f x both, sum_by-cons f x ps)
sum_step f x both ps qs false true rest h = omega (arith, sum_by-cons f x both, sum_by-cons f x qs)
sum_step f x both ps qs false false rest h = rest

-- the sum over what passes one of two tests that share nothing
pub sum_either : (f : ℕ → ℕ) (p q : ℕ → Bool) (xs : List ℕ) → ((y : ℕ) → (p y && q y) ≡ false)
    → sum_by f (filter (λ y. p y || q y) xs) ≡ sum_by f (filter p xs) + sum_by f (filter q xs)
sum_either f p q [] apart = refl
sum_either f p q (x ∷ xs) apart =
    sum_step f x (filter (λ y. p y || q y) xs) (filter p xs) (filter q xs) (p x) (q x) (sum_either f p q xs apart) (apart x)

-- the least of a number and of what f gives
abbrev pub least : (ℕ → ℕ) → ℕ → List ℕ → ℕ
least f a xs = fold (λ low y. min low (f y)) a xs

-- one more element
least_step : (f : ℕ → ℕ) (x : ℕ) (both ps qs : List ℕ) (a b : ℕ) (s t : Bool) → ((c d : ℕ) → least f (min c d) both ≡ min (least f c ps) (least f d qs))
    → least f (min a b) (cond (s || t) (x ∷ both) both) ≡ min (least f a (cond s (x ∷ ps) ps)) (least f b (cond t (x ∷ qs) qs))
least_step f x both ps qs a b true true h =
    let e : min (min a b) (f x) ≡ min (min a (f x)) (min b (f x)) = omega arith in ap (λ m. least f m both) e ∙ h (min a (f x)) (min b (f x))
least_step f x both ps qs a b true false h =
    let e : min (min a b) (f x) ≡ min (min a (f x)) b = omega arith in ap (λ m. least f m both) e ∙ h (min a (f x)) b
least_step f x both ps qs a b false true h =
    let e : min (min a b) (f x) ≡ min a (min b (f x)) = omega arith in ap (λ m. least f m both) e ∙ h a (min b (f x))
least_step f x both ps qs a b false false h = h a b

-- the least over what passes one of two tests
pub least_either : (f : ℕ → ℕ) (p q : ℕ → Bool) (a b : ℕ) (xs : List ℕ)
    → least f (min a b) (filter (λ y. p y || q y) xs) ≡ min (least f a (filter p xs)) (least f b (filter q xs))
least_either f p q a b [] = refl
least_either f p q a b (x ∷ xs) =
    least_step f x (filter (λ y. p y || q y) xs) (filter p xs) (filter q xs) a b (p x) (q x) (λ c d. least_either f p q c d xs)

-- it is no greater than the number
pub least_le_start : (f : ℕ → ℕ) (a : ℕ) (xs : List ℕ) → least f a xs ≤ a
least_le_start f a [] = omega arith
least_le_start f a (x ∷ xs) = omega (arith, least_le_start f (min a (f x)) xs)

-- nor than what f gives for an element
pub least_le : (f : ℕ → ℕ) (p : ℕ → Bool) (a y low len : ℕ) → p y ≡ true → low ≤ y → y < low + len → least f a (filter p (range_with_len low len)) ≤ f y
least_le f p a y low zero h le lt = absurd (omega arith)
least_le f p a y low (suc len) h le lt =
    let rest = filter p (range_with_len (low + 1) len) in
    elim (cases_eq low y) [
      | inl e ↦
          let P : Bool → Type 0 = λ b. least f a (cond b (low ∷ rest) rest) ≤ f y in
          let here : f low ≡ f y = ap f e in
          subst P (sym (ap p e ∙ h)) (omega (arith, least_le_start f (min a (f low)) rest))
      | inr ne ↦
          let above : low + 1 ≤ y = after low y le ne in
          elim (p low) as (λ b. least f a (cond b (low ∷ rest) rest) ≤ f y) [
            | true ↦ least_le f p (min a (f low)) y (low + 1) len h above (omega arith)
            | false ↦ least_le f p a y (low + 1) len h above (omega arith)
          ]
    ]

-- to begin with two numbers
pub least_start : (f : ℕ → ℕ) (a b : ℕ) (xs : List ℕ) → least f (min a b) xs ≡ min (least f a xs) b
least_start f a b [] = refl
least_start f a b (x ∷ xs) =
    let e : min (min a b) (f x) ≡ min (min a (f x)) b = omega arith in ap (λ m. least f m xs) e ∙ least_start f (min a (f x)) b xs

-- functions that agree on what passes have the same sum over it
pub sum_agrees : (f g : ℕ → ℕ) (p : ℕ → Bool) (low len : ℕ) → ((y : ℕ) → low ≤ y → y < low + len → p y ≡ true → f y ≡ g y)
    → sum_by f (filter p (range_with_len low len)) ≡ sum_by g (filter p (range_with_len low len))
sum_agrees f g p low zero h = refl
sum_agrees f g p low (suc len) h =
    let rest = filter p (range_with_len (low + 1) len) in
    let same : sum_by f rest ≡ sum_by g rest = sum_agrees f g p (low + 1) len (λ y le lt. h y (omega arith) (omega arith)) in
    elim (p low) as (λ b. (b ≡ true → f low ≡ g low) → sum_by f (cond b (low ∷ rest) rest) ≡ sum_by g (cond b (low ∷ rest) rest)) [
      | true ↦ λ e. omega (arith, sum_by-cons f low rest, sum_by-cons g low rest, e refl)
      | false ↦ λ e. same
    ] (h low (omega arith) (omega arith))

-- and the same least over it
pub least_agrees : (f g : ℕ → ℕ) (p : ℕ → Bool) (a low len : ℕ) → ((y : ℕ) → low ≤ y → y < low + len → p y ≡ true → f y ≡ g y)
    → least f a (filter p (range_with_len low len)) ≡ least g a (filter p (range_with_len low len))
least_agrees f g p a low zero h = refl
least_agrees f g p a low (suc len) h =
    let rest = filter p (range_with_len (low + 1) len) in
    let later : (y : ℕ) → low + 1 ≤ y → y < low + 1 + len → p y ≡ true → f y ≡ g y = λ y le lt. h y (omega arith) (omega arith) in
    elim (p low) as (λ b. (b ≡ true → f low ≡ g low) → least f a (cond b (low ∷ rest) rest) ≡ least g a (cond b (low ∷ rest) rest)) [
      | true ↦ λ e. ap (λ v. least f (min a v) rest) (e refl) ∙ least_agrees f g p (min a (g low)) (low + 1) len later
      | false ↦ λ e. least_agrees f g p a (low + 1) len later
    ] (h low (omega arith) (omega arith))
