-- Functions with another value at one place.
use Rattle.std.proofs.Common.{◌≡◌, ◌≢◌, ℕ, inl, inr, cond, List, ◌∷◌, ◌++◌, refl, sym, ap, subst}
use Rattle.std.proofs.lemmas.Bool.{cases_eq, eq-eqb, ne_eqb}
use Rattle.kit_base.specs.declared.message.Message.{Message}
use Rattle.kit_parts.specs.Flows.{with_one, with_pair}
use Rattle.kit_parts.proofs.Among.{Among, among_left, among_right, among_cases}

-- a function with another value at one place
pub at_one : {X : Type 0} (f : ℕ → X) (i : ℕ) (x : X) → with_one f i x i ≡ x
at_one f i x = ap (λ b. cond b x (f i)) (eq-eqb i i refl)

pub off_one : {X : Type 0} (f : ℕ → X) (i : ℕ) (x : X) (k : ℕ) → k ≢ i → with_one f i x k ≡ f k
off_one f i x k ne = ap (λ b. cond b x (f k)) (ne_eqb k i ne)

pub each_one : {X : Type 0} (P : ℕ → X → Type 0) (f : ℕ → X) (i : ℕ) (x : X) → P i x → ((k : ℕ) → k ≢ i → P k (f k)) → (k : ℕ) → P k (with_one f i x k)
each_one {X} P f i x here there k =
    elim (cases_eq k i) [
      | inl e ↦ (let Q : ℕ → Type 0 = λ n. P n (with_one f i x n) in let R : X → Type 0 = P i in subst Q (sym e) (subst R (sym (at_one f i x)) here))
      | inr ne ↦ (let R : X → Type 0 = P k in subst R (sym (off_one f i x k ne)) (there k ne))
    ]

pub each_two : {X Y : Type 0} (P : ℕ → X → Y → Type 0) (f : ℕ → X) (g : ℕ → Y) (i : ℕ) (x : X) (y : Y) → P i x y → ((k : ℕ) → k ≢ i → P k (f k) (g k)) → (k : ℕ) → P k (with_one f i x k) (with_one g i y k)
each_two {X} {Y} P f g i x y here there k =
    elim (cases_eq k i) [
      | inl e ↦ (let Q : ℕ → Type 0 = λ n. P n (with_one f i x n) (with_one g i y n) in
          let R : X → Type 0 = λ v. P i v (with_one g i y i) in
          let S : Y → Type 0 = P i x in
          subst Q (sym e) (subst R (sym (at_one f i x)) (subst S (sym (at_one g i y)) here)))
      | inr ne ↦ (let R : X → Type 0 = λ v. P k v (with_one g i y k) in
          let S : Y → Type 0 = P k (f k) in
          subst R (sym (off_one f i x k ne)) (subst S (sym (off_one g i y k ne)) (there k ne)))
    ]

-- a pair of functions changed at one pair
pub pair : (P : ℕ → ℕ → List Message → List Message → Type 0) (f g : ℕ → ℕ → List Message) (i j : ℕ) (x y : List Message) → P i j x y → ((k l : ℕ) → P k l (f k l) (g k l)) → (k l : ℕ) → P k l (with_pair f i j x k l) (with_pair g i j y k l)
pair P f g i j x y here there k l =
    each_two (λ k v w. P k l (v l) (w l)) f g i (with_one (f i) j x) (with_one (g i) j y)
    (each_two (P i) (f i) (g i) j x y here (λ l ne. there i l) l)
    (λ k ne. there k l) k

-- what is left was there
pub among_more : (x : Message) (before : List Message) (m : Message) (after : List Message) → Among x (before ++ after) → Among x (before ++ m ∷ after)
among_more x before m after h = elim (among_cases x before after h) [ inl l ↦ among_left x before (m ∷ after) l | inr r ↦ among_right x before (m ∷ after) (inr r) ]
