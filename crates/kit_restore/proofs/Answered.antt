-- What a reader says of what it gave.
use Rattle.std.proofs.Common.{◌≡◌, ℕ, suc, ◌+◌, ◌≤◌, List, [], ◌∷◌, ◌++◌, length, Bool, true, false, ◌||◌, Option, Some, None, Ok, Err, nat_lt, refl, subst, arith}
use Rattle.std.specs.Prelude.{if◌then◌else◌, option_and_then}
use Rattle.std.proofs.lemmas.Bool.{or_parts, ltb-false}
use Rattle.std.proofs.lemmas.List.{length-append}
use Rattle.serde_json.specs.Data.{Data}
use Rattle.serde_json.specs.Find.{as_number, as_u64, as_array}
use Rattle.kit_walk.specs.declared.fault.FaultKind.{FaultKind}
use Rattle.kit_walk.specs.declared.fault.FaultKind.TheVariants as kind
use Rattle.kit_walk.specs.Paths.{key_path}
use Rattle.kit_walk.specs.Reading.{Answer, ◌>>=◌, fault_at, within, or_fault, guard, each}
use Rattle.kit_walk.specs.Places.{member, number, list, list_of, data_of}

-- of two steps that gave a value both did
pub bind_ok : {A B : Type 0} (r : Answer A) (f : A → Answer B) (y : B) → (r >>= f) ≡ Ok y → (x : A) × (r ≡ Ok x) × (f x ≡ Ok y)
bind_ok (Ok x) f y e = (x, refl, e)
bind_ok (Err d) f y e = absurd (cc)

-- what is seen from further out gave what it gave
pub within_ok : {A : Type 0} (front : List ℕ) (r : Answer A) (x : A) → within front r ≡ Ok x → r ≡ Ok x
within_ok front (Ok x) y e = e
within_ok front (Err f) y e = absurd (cc)

-- what comes after a test that was passed
pub guarded : {B : Type 0} (b : Bool) (k : FaultKind) (path : List ℕ) (f : Unit {0} → Answer B) (y : B) → (guard b k path >>= f) ≡ Ok y → (b ≡ true) × (f tt ≡ Ok y)
guarded true k path f y e = (refl, e)
guarded false k path f y e = absurd (cc)

-- a step that gives what it has
abbrev pub gave : {A : Type 0} → A → Answer A
gave x = Ok x

-- it gave that
pub gave_same : {A : Type 0} (x y : A) → gave x ≡ Ok y → x ≡ y
gave_same x y e = cc

-- what was there, where it had to be
or_fault_ok : {A : Type 0} (k : FaultKind) (path : List ℕ) (o : Option A) (x : A) → or_fault k path o ≡ Ok x → o ≡ Some x
or_fault_ok k path None x e = absurd (cc)
or_fault_ok k path (Some y) x e = cc

-- a number that is not outside a range is within it
within_range : (low high n : ℕ) → (nat_lt n low || nat_lt high n) ≡ false → (low ≤ n) × (n ≤ high)
within_range low high n e =
    let both = or_parts (nat_lt n low) (nat_lt high n) e in
    (ltb-false n low both.0, ltb-false high n both.1)

-- a value that passed the test of its range
in_range : {A : Type 0} (b : Bool) (path : List ℕ) (x y : A) → (if b then fault_at kind.OutOfRange path else Ok x) ≡ Ok y → (b ≡ false) × (x ≡ y)
in_range true path x y e = absurd (cc)
in_range false path x y e = (refl, cc)

-- a number that was read is within its range
pub number_ok : (key : List ℕ) (low high : ℕ) (d : Data) (n : ℕ) → number key low high d ≡ Ok n → (low ≤ n) × (n ≤ high)
unfolding number
number_ok key low high d n e =
    let v = bind_ok (member key d) (λ v. or_fault kind.WrongKind (key_path key) (option_and_then as_u64 (as_number v)) >>= λ m. if nat_lt m low || nat_lt high m then fault_at kind.OutOfRange (key_path key) else Ok m) n e in
    let m = bind_ok (or_fault kind.WrongKind (key_path key) (option_and_then as_u64 (as_number v.0))) (λ m. if nat_lt m low || nat_lt high m then fault_at kind.OutOfRange (key_path key) else Ok m) n v.2 in
    let a = in_range (nat_lt m.0 low || nat_lt high m.0) (key_path key) m.0 n m.2 in
    let P : ℕ → Type 0 = λ k. (low ≤ k) × (k ≤ high) in
    subst P a.1 (within_range low high m.0 a.0)

-- so is the length of a list
pub list_ok : (key : List ℕ) (low high : ℕ) (d : Data) (ds : List Data) → list key low high d ≡ Ok ds → (low ≤ length ds) × (length ds ≤ high)
unfolding list list_of
list_ok key low high d ds e =
    let v = bind_ok (member key d) (λ v. list_of key low high v) ds e in
    let items = bind_ok (or_fault kind.WrongKind (key_path key) (as_array v.0)) (λ items. if nat_lt (length (data_of items)) low || nat_lt high (length (data_of items)) then fault_at kind.OutOfRange (key_path key) else Ok (data_of items)) ds v.2 in
    let a = in_range (nat_lt (length (data_of items.0)) low || nat_lt high (length (data_of items.0))) (key_path key) (data_of items.0) ds items.2 in
    let P : List Data → Type 0 = λ xs. (low ≤ length xs) × (length xs ≤ high) in
    subst P a.1 (within_range low high (length (data_of items.0)) a.0)

-- what each step keeps holds at the end
pub each_kept : {S : Type 0} (P : ℕ → S → Type 0) (step : ℕ → S → Data → Answer S) → ((i : ℕ) (s : S) (d : Data) (t : S) → P i s → step i s d ≡ Ok t → P (suc i) t)
    → (i : ℕ) (s : S) (ds : List Data) (t : S) → P i s → each step i s ds ≡ Ok t → P (i + length ds) t
each_kept {S} P step kept i s [] t h e =
    let none : i ≡ i + 0 = omega arith in
    let same : s ≡ t = gave_same s t e in
    subst (λ n. P n t) none (subst (P i) same h)
each_kept {S} P step kept i s (d ∷ ds) t h e =
    let u = bind_ok (step i s d) (λ u. each step (suc i) u ds) t e in
    let more : suc i + length ds ≡ i + suc (length ds) = omega arith in
    subst (λ n. P n t) more (each_kept P step kept (suc i) u.0 ds t (kept i s d u.0 h u.1) u.2)

-- a step that appends what it reads, seen from further out
pub appended : {X : Type 0} (front : List ℕ) (r : Answer X) (done t : List X) → (within front r >>= λ x. gave (done ++ x ∷ [])) ≡ Ok t → (x : X) × (r ≡ Ok x) × (done ++ x ∷ [] ≡ t)
appended front r done t e =
    let x = bind_ok (within front r) (λ x. gave (done ++ x ∷ [])) t e in
    (x.0, within_ok front r x.0 x.1, gave_same (done ++ x.0 ∷ []) t x.2)

-- one more
pub one_longer : {X : Type 0} (xs : List X) (x : X) (n : ℕ) → length xs ≡ n → length (xs ++ x ∷ []) ≡ suc n
one_longer xs x n e = let both : length (xs ++ x ∷ []) ≡ length xs + 1 = length-append xs (x ∷ []) in omega arith
