-- Seats are dealt in the order of the federates, and all are taken in.
use Rattle.std.proofs.Common.{◌≡◌, ℕ, suc, List, [], ◌∷◌, ◌++◌, length, map, refl, sym, ap, ◌∙◌, subst, ⊎_elim, arith, append_assoc, append-nil, length-append}
use mathlib.Core.Option.{some}
use lib.ListN.{get_elem?}
use Rattle.atomic_table.proofs.Lists.{at_last, at_longer}
use Rattle.kit_pool.specs.Seats.{desks_taken_in}
use Rattle.kit_pool.proofs.Splitting.{at_push}

-- a fact of each element, where one is pushed
pub each_pushed : {A : Type 0} (F : ℕ → A → Type 0) (items now : List A) (x : A) (k : ℕ) → now ≡ items ++ x ∷ [] → length items ≡ k → ((j : ℕ) (y : A) → get_elem? items j ≡ some y → F j y) → F k x
    → (j : ℕ) (y : A) → get_elem? now j ≡ some y → F j y
each_pushed F items now x k is len old one j y e = ⊎_elim (old j y) (λ (t : (j ≡ length items) × (x ≡ y)). subst (λ (z : ℕ × _). F z.0 z.1) (λ i. (sym (t.0 ∙ len) i, t.1 i)) one)
    (at_push items x y j (sym (ap (λ l. get_elem? l j) is) ∙ e))

-- and where the last is taken
pub each_left : {A : Type 0} (F : ℕ → A → Type 0) (old now : List A) (x : A) → old ≡ now ++ x ∷ [] → ((k : ℕ) (s : A) → get_elem? old k ≡ some s → F k s) → (k : ℕ) (s : A) → get_elem? now k ≡ some s → F k s
each_left F old now x is h k s e = h k s (ap (λ l. get_elem? l k) is ∙ at_longer now (x ∷ []) k s e)

pub at_end : {A : Type 0} (F : A → Type 0) (old now : List A) (x : A) → old ≡ now ++ x ∷ [] → ((k : ℕ) (s : A) → get_elem? old k ≡ some s → F s) → F x
at_end F old now x is h = h (length now) x (ap (λ l. get_elem? l (length now)) is ∙ at_last now x (length now) refl)

gathered-push : {A B : Type 0} (f : A → List B) (xs : List A) (x : A) → desks_taken_in (map f (xs ++ x ∷ [])) ≡ f x ++ desks_taken_in (map f xs)
gathered-push f [] x = sym (append-nil (f x))
gathered-push f (y ∷ ys) x = ap (λ l. l ++ f y) (gathered-push f ys x) ∙ append_assoc (f x) (desks_taken_in (map f ys)) (f y)

-- the last is taken in behind those that were taken before
pub gathered_more : {A B : Type 0} (f : A → List B) (old now : List A) (x : A) (had d : List B) → old ≡ now ++ x ∷ [] → d ≡ had ++ f x → d ++ desks_taken_in (map f now) ≡ had ++ desks_taken_in (map f old)
gathered_more f old now x had d is more =
    ap (λ l. l ++ desks_taken_in (map f now)) more ∙ (append_assoc had (f x) (desks_taken_in (map f now)) ∙ ap (λ l. had ++ l) (sym (gathered-push f now x) ∙ ap (λ l. desks_taken_in (map f l)) (sym is)))

-- where the last of a list is taken, one fewer are left
pub one_fewer : {A : Type 0} (old now : List A) (x : A) (k : ℕ) → old ≡ now ++ x ∷ [] → length old ≡ suc k → length now ≡ k
one_fewer old now x k is long = let all = ap length is in omega (arith, all, length-append now (x ∷ []), long)

-- and it was the one of this number
pub last_is : {A : Type 0} (F : ℕ → A → Type 0) (old now : List A) (x : A) (k : ℕ) → old ≡ now ++ x ∷ [] → length old ≡ suc k → ((j : ℕ) (y : A) → get_elem? old j ≡ some y → F j y) → F k x
last_is F old now x k is long h = h k x (ap (λ l. get_elem? l k) is ∙ at_last now x k (one_fewer old now x k is long))
