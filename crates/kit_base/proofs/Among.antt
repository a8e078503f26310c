-- Membership in a list by recursion on it, and lists whose elements all differ.
use Rattle.std.proofs.Common.{◌≡◌, ℕ, zero, suc, inl, inr, ◌⊎◌, Bool, true, false, cond, ◌||◌, ◌<◌, List, [], ◌∷◌, ◌++◌, length, get_or, filter, arith, refl, sym, ap, ◌∙◌, subst}
use Rattle.std.specs.List.{AllByRecursion, AllPairs, Contains, list_any, flat_map}
use Rattle.std.proofs.lemmas.Bool.{cases_Bool, or_cases, or_left}

-- an element is one of the list
abbrev pub Among : {X : Type 0} → X → List X → Type 0
Among x [] = ⊥
Among x (y ∷ ys) = (y ≡ x) ⊎ Among x ys

pub among_right : {X : Type 0} (x : X) (xs ys : List X) → Among x ys → Among x (xs ++ ys)
among_right x [] ys h = h
among_right x (y ∷ xs) ys h = inr (among_right x xs ys h)

pub among_left : {X : Type 0} (x : X) (xs ys : List X) → Among x xs → Among x (xs ++ ys)
among_left x [] ys h = elim h [ ]
among_left x (y ∷ xs) ys (inl e) = inl e
among_left x (y ∷ xs) ys (inr h) = inr (among_left x xs ys h)

pub among_cases : {X : Type 0} (x : X) (xs ys : List X) → Among x (xs ++ ys) → Among x xs ⊎ Among x ys
among_cases x [] ys h = inr h
among_cases x (y ∷ xs) ys (inl e) = inl (inl e)
among_cases x (y ∷ xs) ys (inr h) = elim (among_cases x xs ys h) [ inl a ↦ inl (inr a) | inr b ↦ inr b ]

-- what holds of each holds of one that is among them
pub each_of : {X : Type 0} (P : X → Type 0) (x : X) (xs : List X) → AllByRecursion P xs → Among x xs → P x
each_of P x [] h a = elim a [ ]
each_of P x (y ∷ ys) h (inl e) = subst P e h.0
each_of P x (y ∷ ys) h (inr a) = each_of P x ys h.1 a

-- what holds of one that is among them holds of each
pub for_each : {X : Type 0} (P : X → Type 0) (xs : List X) → ((x : X) → Among x xs → P x) → AllByRecursion P xs
for_each P [] f = tt
for_each P (y ∷ ys) f = (f y (inl refl), for_each P ys (λ x a. f x (inr a)))

-- a filter leaves what passes
pub among_filter : {X : Type 0} (test : X → Bool) (x : X) (xs : List X) → Among x xs → test x ≡ true → Among x (filter test xs)
among_filter test x [] a t = elim a [ ]
among_filter test x (y ∷ ys) (inl e) t = let t' : test y ≡ true = ap test e ∙ t in rw t' (inl e)
among_filter test x (y ∷ ys) (inr a) t = elim (test y) as (λ b. Among x (cond b (y ∷ filter test ys) (filter test ys))) [ true ↦ inr (among_filter test x ys a t) | false ↦ among_filter test x ys a t ]

pub filter_among : {X : Type 0} (test : X → Bool) (x : X) (xs : List X) → Among x (filter test xs) → Among x xs × (test x ≡ true)
filter_among test x [] a = elim a [ ]
filter_among test x (y ∷ ys) a =
    elim (cases_Bool (test y)) [
      | inl t ↦ (let h : (y ≡ x) ⊎ Among x (filter test ys) = rw t at a in
          elim h [ inl e ↦ (inl e, ap test (sym e) ∙ t) | inr b ↦ (let r = filter_among test x ys b in (inr r.0, r.1)) ])
      | inr f ↦ (let h : Among x (filter test ys) = rw f at a in let r = filter_among test x ys h in (inr r.0, r.1))
    ]

-- by places
pub contains_among : {X : Type 0} (x : X) (xs : List X) → Contains xs x → Among x xs
contains_among x xs c = at x xs c.0 c.1 c.2
  where
    at : {X : Type 0} (x : X) (xs : List X) (k : ℕ) → k < length xs → get_or xs k x ≡ x → Among x xs
    at x [] k lt e = absurd (omega arith)
    at x (y ∷ ys) zero lt e = inl e
    at x (y ∷ ys) (suc k) lt e = inr (at x ys k (omega arith) e)

pub among_contains : {X : Type 0} (x : X) (xs : List X) → Among x xs → Contains xs x
among_contains x [] a = elim a [ ]
among_contains x (y ∷ ys) (inl e) = (0, omega arith, e)
among_contains x (y ∷ ys) (inr a) = let c = among_contains x ys a in (suc c.0, (let l : c.0 < length ys = c.1 in omega arith), c.2)

-- a test that some element passes
pub any_among : {X : Type 0} (test : X → Bool) (x : X) (xs : List X) → Among x xs → test x ≡ true → list_any test xs ≡ true
any_among test x [] a t = elim a [ ]
any_among test x (y ∷ ys) (inl e) t = or_left (test y) (list_any test ys) (ap test e ∙ t)
any_among test x (y ∷ ys) (inr a) t = or_right' (test y) (list_any test ys) (any_among test x ys a t)
  where
    or_right' : (a b : Bool) → b ≡ true → (a || b) ≡ true
    or_right' true b h = refl
    or_right' false b h = h

pub among_any : {X : Type 0} (test : X → Bool) (xs : List X) → list_any test xs ≡ true → (x : X) × Among x xs × (test x ≡ true)
among_any test [] h = absurd (cc)
among_any test (y ∷ ys) h =
    elim (or_cases (test y) (list_any test ys) h) [
      | inl t ↦ (y, inl refl, t)
      | inr r ↦ (let s = among_any test ys r in (s.0, inr s.1, s.2))
    ]

-- joined lists
pub among_flat : {X Y : Type 0} (f : X → List Y) (y : Y) (x : X) (xs : List X) → Among x xs → Among y (f x) → Among y (flat_map f xs)
among_flat f y x [] a b = elim a [ ]
among_flat f y x (z ∷ zs) (inl e) b = among_left y (f z) (flat_map f zs) (let P : _ → Type 0 = λ v. Among y (f v) in subst P (sym e) b)
among_flat f y x (z ∷ zs) (inr a) b = among_right y (f z) (flat_map f zs) (among_flat f y x zs a b)

pub flat_among : {X Y : Type 0} (f : X → List Y) (y : Y) (xs : List X) → Among y (flat_map f xs) → (x : X) × Among x xs × Among y (f x)
flat_among f y [] a = elim a [ ]
flat_among f y (z ∷ zs) a =
    elim (among_cases y (f z) (flat_map f zs) a) [
      | inl h ↦ (z, inl refl, h)
      | inr h ↦ (let r = flat_among f y zs h in (r.0, inr r.1, r.2))
    ]

-- all elements differ
abbrev pub Distinct : {X : Type 0} → List X → Type 0
Distinct [] = Unit {0}
Distinct (x ∷ xs) = (Among x xs → ⊥) × Distinct xs

pub distinct_filter : {X : Type 0} (test : X → Bool) (xs : List X) → Distinct xs → Distinct (filter test xs)
distinct_filter test [] d = tt
distinct_filter test (x ∷ xs) d =
    elim (test x) as (λ b. Distinct (cond b (x ∷ filter test xs) (filter test xs))) [ true ↦ ((λ a. d.0 (filter_among test x xs a).0), distinct_filter test xs d.1) | false ↦ distinct_filter test xs d.1 ]

-- by places
pub pairs_distinct : {X : Type 0} (xs : List X) → AllPairs (λ a b. a ≡ b → ⊥) xs → Distinct xs
pairs_distinct [] h = tt
pairs_distinct (x ∷ xs) h = (
  (λ a. let c = among_contains x xs a in h 0 (suc c.0) x (omega arith) (let l : c.0 < length xs = c.1 in omega arith) (sym c.2)),
  pairs_distinct xs (λ i j d lt within. h (suc i) (suc j) d (omega arith) (omega arith)),
)

pub distinct_pairs : {X : Type 0} (xs : List X) → Distinct xs → AllPairs (λ a b. a ≡ b → ⊥) xs
distinct_pairs [] d i j e lt within = absurd (omega arith)
distinct_pairs (x ∷ xs) d i zero e lt within = absurd (omega arith)
distinct_pairs (x ∷ xs) d zero (suc j) e lt within = λ same. d.0 (get_among x xs j e (omega arith) (sym same))
  where
    get_among : {X : Type 0} (x : X) (xs : List X) (j : ℕ) (e : X) → j < length xs → get_or xs j e ≡ x → Among x xs
    get_among x [] j e lt same = absurd (omega arith)
    get_among x (y ∷ ys) zero e lt same = inl same
    get_among x (y ∷ ys) (suc j) e lt same = inr (get_among x ys j e (omega arith) same)
distinct_pairs (x ∷ xs) d (suc i) (suc j) e lt within = distinct_pairs xs d.1 i j e (omega arith) (omega arith)
