-- Lists in which each stands so to those behind it, by recursion.
use Rattle.std.proofs.Common.{◌≡◌, ℕ, ◌+◌, ◌<◌, Bool, true, false, cond, List, [], ◌∷◌, map, filter, arith, refl, sym, subst}
use Rattle.std.specs.List.{AllByRecursion, AllPairs}
use Rattle.std.proofs.lemmas.List.Elements.{All-from_recursion}
use Rattle.std.proofs.lemmas.List.Kept.{AllPairs-cons}
use Rattle.kit_base.specs.declared.message.Message.{Message}
use Rattle.kit_base.proofs.Lists.{all_filter}
use Rattle.kit_rules.proofs.Growth.{AreNumbered}
use Rattle.kit_rules.specs.declared.own.Own.{Own}
use Rattle.kit_rules.specs.Own.{own_of}

-- each stands so to those behind it
abbrev pub Pairwise : {X : Type 0} → (X → X → Type 0) → List X → Type 0
Pairwise R [] = Unit {0}
Pairwise R (x ∷ xs) = AllByRecursion (R x) xs × Pairwise R xs

-- by places
pub pairs_from : {X : Type 0} (R : X → X → Type 0) (xs : List X) → Pairwise R xs → AllPairs R xs
pairs_from R [] h = λ i j d lt inside. absurd (omega arith)
pairs_from R (x ∷ xs) h = AllPairs-cons R x xs (All-from_recursion (R x) xs h.0) (pairs_from R xs h.1)

-- a filter keeps it
pub pairs_filter : {X : Type 0} (R : X → X → Type 0) (q : X → Bool) (xs : List X) → Pairwise R xs → Pairwise R (filter q xs)
pairs_filter R q [] h = tt
pairs_filter R q (x ∷ xs) h =
    elim (q x) as (λ b. Pairwise R (cond b (x ∷ filter q xs) (filter q xs))) [ true ↦ (all_filter (R x) q xs h.0, pairs_filter R q xs h.1) | false ↦ pairs_filter R q xs h.1 ]

-- what holds of each holds so of their images
pub all_map : {X Y : Type 0} (P : X → Type 0) (Q : Y → Type 0) (f : X → Y) (xs : List X) → ((x : X) → P x → Q (f x)) → AllByRecursion P xs → AllByRecursion Q (map f xs)
all_map P Q f [] g h = tt
all_map P Q f (x ∷ xs) g h = (g x h.0, all_map P Q f xs g h.1)

-- what passes a test, with the test
pub all_passed : {X : Type 0} (P : X → Type 0) (q : X → Bool) (xs : List X) → AllByRecursion P xs → AllByRecursion (λ x. P x × (q x ≡ true)) (filter q xs)
all_passed P q [] h = tt
all_passed P q (x ∷ xs) h = by_test (q x) refl (all_passed P q xs h.1)
  where
    by_test : (b : Bool) → q x ≡ b → AllByRecursion (λ x. P x × (q x ≡ true)) (filter q xs) → AllByRecursion (λ x. P x × (q x ≡ true)) (cond (q x) (x ∷ filter q xs) (filter q xs))
    by_test true e rest = let T : Bool → Type 0 = λ b. AllByRecursion (λ x. P x × (q x ≡ true)) (cond b (x ∷ filter q xs) (filter q xs)) in subst T (sym e) ((h.0, e), rest)
    by_test false e rest = let T : Bool → Type 0 = λ b. AllByRecursion (λ x. P x × (q x ≡ true)) (cond b (x ∷ filter q xs) (filter q xs)) in subst T (sym e) rest

-- both facts hold of each
pub both_all : {X : Type 0} (P Q : X → Type 0) (xs : List X) → AllByRecursion P xs → AllByRecursion Q xs → AllByRecursion (λ x. P x × Q x) xs
both_all P Q [] a b = tt
both_all P Q (x ∷ xs) a b = ((a.0, b.0), both_all P Q xs a.1 b.1)

-- a message has a lower number than another
abbrev pub Lower : Message → Message → Type 0
Lower a b = a.number < b.number

-- numbers of a list of one sender rise
numbered_above : (i n : ℕ) (ms : List Message) → AreNumbered i n ms → (b : ℕ) → b < n → AllByRecursion (λ (m : Message). b < m.number) ms
numbered_above i n [] num b lt = tt
numbered_above i n (m ∷ ms) num b lt = ((let is : m.number ≡ n = num.1 in omega arith), numbered_above i (n + 1) ms num.2 b (omega arith))

pub numbers_rise : (i n : ℕ) (ms : List Message) → AreNumbered i n ms → Pairwise Lower ms
numbers_rise i n [] num = tt
numbers_rise i n (m ∷ ms) num = (numbered_above i (n + 1) ms num.2 m.number (let is : m.number ≡ n = num.1 in omega arith), numbers_rise i (n + 1) ms num.2)

-- an own Event has a lower number than another
abbrev pub LowerOwn : Own → Own → Type 0
LowerOwn a b = a.number < b.number

pub own_rises : (ms : List Message) → Pairwise Lower ms → Pairwise LowerOwn (map own_of ms)
own_rises [] h = tt
own_rises (m ∷ ms) h = (all_map (Lower m) (λ (o : Own). m.number < o.number) own_of ms (λ x lt. lt) h.0, own_rises ms h.1)
