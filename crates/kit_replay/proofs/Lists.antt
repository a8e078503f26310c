-- The elements of a list, as `get_elem?` gives them.
use Rattle.std.proofs.Common.{◌≡◌, ◌≢◌, ℕ, zero, suc, ◌<◌, List, [], ◌∷◌, ◌++◌, length, get_or, set, take, refl, sym, ap, subst, arith}
use mathlib.Core.Option.{some, some-injective, some-ne-none}
use lib.ListN.{get_elem?}

module _ {A : Type 0} where
  pub at_set_here : (l : List A) (i : ℕ) (a : A) → i < length l → get_elem? (set l i a) i ≡ some a
  at_set_here [] i a h = absurd (omega arith)
  at_set_here (x ∷ xs) zero a h = refl
  at_set_here (x ∷ xs) (suc i) a h = at_set_here xs i a (omega arith)

  pub at_set_else : (l : List A) (i k : ℕ) (a : A) → k ≢ i → get_elem? (set l i a) k ≡ get_elem? l k
  at_set_else [] i k a h = refl
  at_set_else (x ∷ xs) zero zero a h = absurd (h refl)
  at_set_else (x ∷ xs) zero (suc k) a h = refl
  at_set_else (x ∷ xs) (suc i) zero a h = refl
  at_set_else (x ∷ xs) (suc i) (suc k) a h = at_set_else xs i k a (λ e. h (ap suc e))

  -- a list with one element more at its end
  pub at_push : (P : ℕ → A → Type 0) (l : List A) (x : A) → ((i : ℕ) (a : A) → get_elem? l i ≡ some a → P i a) → P (length l) x
      → (i : ℕ) (a : A) → get_elem? (l ++ x ∷ []) i ≡ some a → P i a
  at_push P [] x each last zero a at = subst (P 0) (some-injective x a at) last
  at_push P [] x each last (suc i) a at = absurd (some-ne-none a (sym at))
  at_push P (y ∷ ys) x each last zero a at = each zero a at
  at_push P (y ∷ ys) x each last (suc i) a at = at_push (λ k. P (suc k)) ys x (λ k b e. each (suc k) b e) (let e : length (y ∷ ys) ≡ suc (length ys) = omega arith in subst (λ k. P k x) e last) i a at

  -- one element more
  pub take_more : (l : List A) (i : ℕ) (d : A) → i < length l → take (suc i) l ≡ take i l ++ get_or l i d ∷ []
  take_more [] i d h = absurd (omega arith)
  take_more (x ∷ xs) zero d h = refl
  take_more (x ∷ xs) (suc i) d h = ap (λ (ys : List A). x ∷ ys) (take_more xs i d (omega arith))

  -- there is an element at each place
  pub at_some : (l : List A) (i : ℕ) → i < length l → (a : A) × (get_elem? l i ≡ some a)
  at_some [] i h = absurd (omega arith)
  at_some (x ∷ xs) zero h = (x, refl)
  at_some (x ∷ xs) (suc i) h = at_some xs i (omega arith)

  -- the elements with one more
  pub at_push_first : (l : List A) (x : A) (i : ℕ) → i < length l → get_elem? (l ++ x ∷ []) i ≡ get_elem? l i
  at_push_first [] x i h = absurd (omega arith)
  at_push_first (y ∷ ys) x zero h = refl
  at_push_first (y ∷ ys) x (suc i) h = at_push_first ys x i (omega arith)

  pub at_push_last : (l : List A) (x : A) (i : ℕ) → i ≡ length l → get_elem? (l ++ x ∷ []) i ≡ some x
  at_push_last [] x zero e = refl
  at_push_last [] x (suc i) e = absurd (omega arith)
  at_push_last (y ∷ ys) x zero e = absurd (omega arith)
  at_push_last (y ∷ ys) x (suc i) e = at_push_last ys x i (omega arith)

  -- the element that is read at a place
  pub read_at : (l : List A) (i : ℕ) (a d : A) → get_elem? l i ≡ some a → get_or l i d ≡ a
  read_at [] i a d at = absurd (some-ne-none a (sym at))
  read_at (x ∷ xs) zero a d at = some-injective x a at
  read_at (x ∷ xs) (suc i) a d at = read_at xs i a d at
