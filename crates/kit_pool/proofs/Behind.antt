-- Lists that stand behind others.
use Rattle.std.proofs.Common.{◌≡◌, ℕ, zero, suc, ◌+◌, ◌<◌, List, [], ◌∷◌, ◌++◌, length, replicate, set, get_or, refl, ap, ◌∙◌, arith}
use lib.ListN.{get_elem?}

pub get_behind : (front words : List ℕ) (i : ℕ) → get_or (front ++ words) (length front + i) 0 ≡ get_or words i 0
get_behind [] words i = let e : 0 + i ≡ i = omega arith in ap (λ (k : ℕ). get_or words k 0) e
get_behind (x ∷ xs) words i = let e : suc (length xs) + i ≡ suc (length xs + i) = omega arith in ap (λ (k : ℕ). get_or (x ∷ (xs ++ words)) k 0) e ∙ get_behind xs words i

-- a word that is stored again
pub set_same : (words : List ℕ) (i : ℕ) → set words i (get_or words i 0) ≡ words
set_same [] i = refl
set_same (x ∷ xs) zero = refl
set_same (x ∷ xs) (suc i) = ap (λ (l : List ℕ). x ∷ l) (set_same xs i)

module _ {A : Type 0} where
  pub set_behind : (front l : List A) (i : ℕ) (v : A) → set (front ++ l) (length front + i) v ≡ front ++ set l i v
  set_behind [] l i v = let e : 0 + i ≡ i = omega arith in ap (λ (k : ℕ). set l k v) e
  set_behind (x ∷ xs) l i v =
      let e : suc (length xs) + i ≡ suc (length xs + i) = omega arith in
      ap (λ (k : ℕ). set (x ∷ (xs ++ l)) k v) e ∙ ap (λ (l : List A). x ∷ l) (set_behind xs l i v)

  pub set_before : (front l : List A) (i : ℕ) (v : A) → i < length front → set (front ++ l) i v ≡ set front i v ++ l
  set_before [] l i v h = absurd (omega arith)
  set_before (x ∷ xs) l zero v h = refl
  set_before (x ∷ xs) l (suc i) v h = ap (λ (l : List A). x ∷ l) (set_before xs l i v (omega arith))

  pub at_behind : (front l : List A) (i : ℕ) → get_elem? (front ++ l) (length front + i) ≡ get_elem? l i
  at_behind [] l i = let e : 0 + i ≡ i = omega arith in ap (get_elem? l) e
  at_behind (x ∷ xs) l i = let e : suc (length xs) + i ≡ suc (length xs + i) = omega arith in ap (get_elem? (x ∷ (xs ++ l))) e ∙ at_behind xs l i

  pub at_before : (front l : List A) (i : ℕ) → i < length front → get_elem? (front ++ l) i ≡ get_elem? front i
  at_before [] l i h = absurd (omega arith)
  at_before (x ∷ xs) l zero h = refl
  at_before (x ∷ xs) l (suc i) h = at_before xs l i (omega arith)

pub replicate_behind : (m k : ℕ) → replicate {A = ℕ} m 0 ++ replicate {A = ℕ} k 0 ≡ replicate {A = ℕ} (m + k) 0
replicate_behind zero k = let e : k ≡ 0 + k = omega arith in ap (λ (n : ℕ). replicate {A = ℕ} n 0) e
replicate_behind (suc m) k = let e : suc (m + k) ≡ suc m + k = omega arith in ap (λ (l : List ℕ). 0 ∷ l) (replicate_behind m k) ∙ ap (λ (n : ℕ). replicate {A = ℕ} n 0) e
