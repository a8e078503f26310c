-- What a change inside a row leaves of the places.
use Rattle.std.proofs.Common.{◌≡◌, ℕ, zero, suc, ◌+◌, ◌<◌, ◌≤◌, List, [], ◌∷◌, ◌++◌, length, take, drop, set, arith, refl, sym, ap, ◌∙◌}
use Rattle.std.specs.List.{insert, remove}

-- the first of some elements, as many as there are and no more
front : {X : Type 0} (xs Z : List X) (l n m : ℕ) → l ≡ n → m ≡ n → n ≤ length xs → take l (take n xs ++ Z) ≡ take m xs
front xs Z zero zero zero p q h = refl
front xs Z zero zero (suc m) p q h = absurd (omega arith)
front xs Z zero (suc n) m p q h = absurd (omega arith)
front xs Z (suc l) zero m p q h = absurd (omega arith)
front xs Z (suc l) (suc n) zero p q h = absurd (omega arith)
front [] Z (suc l) (suc n) (suc m) p q h = absurd (omega arith)
front (x ∷ xs) Z (suc l) (suc n) (suc m) p q h = ap (λ ys. x ∷ ys) (front xs Z l n m (omega arith) (omega arith) (omega arith))

-- an element set at the last of the first places
pub set_last : {X : Type 0} (xs Z : List X) (p q : ℕ) (e : X) → q ≡ p + 1 → p < length xs → set (take q xs ++ Z) p e ≡ take p xs ++ (e ∷ Z)
set_last [] Z p q e h l = absurd (omega arith)
set_last (x ∷ xs) Z zero zero e h l = absurd (omega arith)
set_last (x ∷ xs) Z zero (suc zero) e h l = refl
set_last (x ∷ xs) Z zero (suc (suc q)) e h l = absurd (omega arith)
set_last (x ∷ xs) Z (suc p) zero e h l = absurd (omega arith)
set_last (x ∷ xs) Z (suc p) (suc q) e h l = ap (λ ys. x ∷ ys) (set_last xs Z p q e (omega arith) (omega arith))

-- an element that was put among those of a row, and the later ones behind it
pub put_in : {X : Type 0} (xs Z : List X) (a k n p len more : ℕ) (e : X) → p ≡ a + k → len ≡ k + n → more ≡ len + 1 → p + n ≤ length xs
    → take more (drop a (take p xs ++ (e ∷ (take n (drop p xs) ++ Z)))) ≡ insert (take len (drop a xs)) k e
put_in xs Z (suc a) k n zero len more e h g m l = absurd (omega arith)
put_in [] Z (suc a) k n (suc p) len more e h g m l = absurd (omega arith)
put_in (x ∷ xs) Z (suc a) k n (suc p) len more e h g m l = put_in xs Z a k n p len more e (omega arith) g m (omega arith)
put_in xs Z zero zero n (suc p) len more e h g m l = absurd (omega arith)
put_in xs Z zero zero n zero len zero e h g m l = absurd (omega arith)
put_in xs Z zero zero n zero len (suc more) e h g m l = ap (λ ys. e ∷ ys) (front xs Z more n len (omega arith) (omega arith) (omega arith))
put_in xs Z zero (suc k) n zero len more e h g m l = absurd (omega arith)
put_in [] Z zero (suc k) n (suc p) len more e h g m l = absurd (omega arith)
put_in (x ∷ xs) Z zero (suc k) n (suc p) zero more e h g m l = absurd (omega arith)
put_in (x ∷ xs) Z zero (suc k) n (suc p) (suc len) zero e h g m l = absurd (omega arith)
put_in (x ∷ xs) Z zero (suc k) n (suc p) (suc len) (suc more) e h g m l =
    ap (λ ys. x ∷ ys) (put_in xs Z zero k n p len more e (omega arith) (omega arith) (omega arith) (omega arith))

-- an element that was taken out of a row, and the later ones in its place
pub taken_out : {X : Type 0} (xs Z : List X) (a k n p q len less : ℕ) → p ≡ a + k → q ≡ p + 1 → len ≡ k + n + 1 → less + 1 ≡ len → p + n + 1 ≤ length xs
    → take less (drop a (take p xs ++ (take n (drop q xs) ++ Z))) ≡ remove (take len (drop a xs)) k
taken_out xs Z (suc a) k n zero q len less h r g m l = absurd (omega arith)
taken_out xs Z (suc a) k n (suc p) zero len less h r g m l = absurd (omega arith)
taken_out [] Z (suc a) k n (suc p) (suc q) len less h r g m l = absurd (omega arith)
taken_out (x ∷ xs) Z (suc a) k n (suc p) (suc q) len less h r g m l = taken_out xs Z a k n p q len less (omega arith) (omega arith) g m (omega arith)
taken_out xs Z zero zero n (suc p) q len less h r g m l = absurd (omega arith)
taken_out xs Z zero zero n zero zero len less h r g m l = absurd (omega arith)
taken_out xs Z zero zero n zero (suc (suc q)) len less h r g m l = absurd (omega arith)
taken_out [] Z zero zero n zero (suc zero) len less h r g m l = absurd (omega arith)
taken_out (x ∷ xs) Z zero zero n zero (suc zero) zero less h r g m l = absurd (omega arith)
taken_out (x ∷ xs) Z zero zero n zero (suc zero) (suc len) less h r g m l = front xs Z less n len (omega arith) (omega arith) (omega arith)
taken_out xs Z zero (suc k) n zero q len less h r g m l = absurd (omega arith)
taken_out xs Z zero (suc k) n (suc p) zero len less h r g m l = absurd (omega arith)
taken_out [] Z zero (suc k) n (suc p) (suc q) len less h r g m l = absurd (omega arith)
taken_out (x ∷ xs) Z zero (suc k) n (suc p) (suc q) zero less h r g m l = absurd (omega arith)
taken_out (x ∷ xs) Z zero (suc k) n (suc p) (suc q) (suc len) zero h r g m l = absurd (omega arith)
taken_out (x ∷ xs) Z zero (suc k) n (suc p) (suc q) (suc len) (suc less) h r g m l =
    ap (λ ys. x ∷ ys) (taken_out xs Z zero k n p q len less (omega arith) (omega arith) (omega arith) (omega arith) (omega arith))

-- an element that was set in a row
pub set_in : {X : Type 0} (xs : List X) (a k p len : ℕ) (e : X) → p ≡ a + k → take len (drop a (set xs p e)) ≡ set (take len (drop a xs)) k e
set_in [] a k p len e h = nothing a k len
  where
    nothing : (a k len : ℕ) → take len (drop a (set [] p e)) ≡ set (take len (drop a [])) k e
    nothing zero k zero = refl
    nothing zero k (suc len) = refl
    nothing (suc a) k zero = refl
    nothing (suc a) k (suc len) = refl
set_in (x ∷ xs) (suc a) k zero len e h = absurd (omega arith)
set_in (x ∷ xs) (suc a) k (suc p) len e h = set_in xs a k p len e (omega arith)
set_in (x ∷ xs) zero zero zero zero e h = refl
set_in (x ∷ xs) zero zero zero (suc len) e h = refl
set_in (x ∷ xs) zero zero (suc p) len e h = absurd (omega arith)
set_in (x ∷ xs) zero (suc k) zero len e h = absurd (omega arith)
set_in (x ∷ xs) zero (suc k) (suc p) zero e h = refl
set_in (x ∷ xs) zero (suc k) (suc p) (suc len) e h = ap (λ ys. x ∷ ys) (set_in xs zero k p len e (omega arith))

-- nothing is left behind the end
past : {X : Type 0} (n : ℕ) → drop {A = X} n [] ≡ []
past zero = refl
past (suc n) = refl

-- what is the same from a place on is so from a later one
pub same_later : {X : Type 0} (xs ys : List X) (m b : ℕ) → m ≤ b → drop m xs ≡ drop m ys → drop b xs ≡ drop b ys
same_later xs ys zero b l h = ap (drop b) h
same_later xs ys (suc m) zero l h = absurd (omega arith)
same_later [] [] (suc m) (suc b) l h = refl
same_later [] (y ∷ ys) (suc m) (suc b) l h = sym (past b) ∙ same_later [] ys m b (omega arith) (past m ∙ h)
same_later (x ∷ xs) [] (suc m) (suc b) l h = same_later xs [] m b (omega arith) (h ∙ sym (past m)) ∙ past b
same_later (x ∷ xs) (y ∷ ys) (suc m) (suc b) l h = same_later xs ys m b (omega arith) h

-- the first of the first elements
within : {X : Type 0} (zs : List X) (a s n : ℕ) → s + n ≤ a → take n (drop s (take a zs)) ≡ take n (drop s zs)
within [] zero s n l = refl
within [] (suc a) s n l = refl
within (z ∷ zs) zero zero zero l = refl
within (z ∷ zs) zero zero (suc n) l = absurd (omega arith)
within (z ∷ zs) zero (suc s) n l = absurd (omega arith)
within (z ∷ zs) (suc a) zero zero l = refl
within (z ∷ zs) (suc a) zero (suc n) l = ap (λ ws. z ∷ ws) (within zs a zero n (omega arith))
within (z ∷ zs) (suc a) (suc s) n l = within zs a s n (omega arith)

-- what is the same up to a place is so before it
pub same_earlier : {X : Type 0} (xs ys : List X) (a s n : ℕ) → s + n ≤ a → take a xs ≡ take a ys → take n (drop s xs) ≡ take n (drop s ys)
same_earlier xs ys a s n l h = sym (within xs a s n l) ∙ ap (λ zs. take n (drop s zs)) h ∙ within ys a s n l

-- what is set at a place is not seen behind it
pub set_before : {X : Type 0} (xs : List X) (p b : ℕ) (e : X) → p < b → drop b (set xs p e) ≡ drop b xs
set_before [] p b e l = refl
set_before (x ∷ xs) p zero e l = absurd (omega arith)
set_before (x ∷ xs) zero (suc b) e l = refl
set_before (x ∷ xs) (suc p) (suc b) e l = set_before xs p b e (omega arith)
