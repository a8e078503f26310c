-- A name that stands for a place is found there.
use Rattle.std.proofs.Common.{◌≡◌, ◌≢◌, ℕ, zero, suc, ◌+◌, ◌++◌, ◌<◌, List, [], ◌∷◌, length, map, true, false, Some, Ok, nat_lt, nat_eq, refl, sym, ap, ◌∙◌, arith, inl, inr}
use Rattle.std.specs.Prelude.{slice_index_or}
use Rattle.std.specs.List.{All, AllPairs, position_or_len}
use Rattle.std.proofs.lemmas.Bool.{cases_Bool}
use Rattle.std.proofs.lemmas.List.{length-map}
use Rattle.std.specs.Cmp.Lexicographic.{same_text}
use Rattle.serde_json.specs.Data.{Data, string}
use Rattle.serde_json.specs.Find.{get}
use Rattle.kit_walk.specs.Places.{is_same}
use Rattle.kit_file.specs.Names.{itself, position_of, reference}
use Rattle.kit_save.specs.Values.{name_at}
use Rattle.kit_save.proofs.Lists.{text_read, pairs_tail, pairs_before}

-- a text is the same as itself
same_self : (s : List ℕ) → is_same s s ≡ true
same_self [] = refl
same_self (x ∷ s) = let e : nat_eq x x ≡ true = search arith in rw e (same_self s)

-- and not the same as another
pub not_same : (a b : List ℕ) → a ≢ b → is_same a b ≡ false
not_same a b ne = elim (cases_Bool (is_same a b)) [ inl t ↦ absurd (ne (same_text a b (sym t))) | inr f ↦ f ]

-- the name at a place is that of the member there
pub name_there : {X : Type 0} (name_of : X → List ℕ) (xs : List X) (i : ℕ) (d : X) → i < length xs → name_at name_of xs i ≡ name_of (slice_index_or xs i d)
name_there name_of [] i d lt = absurd (omega (arith, lt))
name_there name_of (x ∷ xs) zero d lt = refl
name_there name_of (x ∷ xs) (suc i) d lt = name_there name_of xs i d (omega (arith, lt))

-- the name at a place of the list of names
pub name_of_names : {X : Type 0} (name_of : X → List ℕ) (xs : List X) (i : ℕ) → name_at itself (map name_of xs) i ≡ name_at name_of xs i
name_of_names name_of [] i = refl
name_of_names name_of (x ∷ xs) zero = refl
name_of_names name_of (x ∷ xs) (suc i) = name_of_names name_of xs i

-- no two of a list have the same name
abbrev pub Differ : {X : Type 0} → (X → List ℕ) → List X → Type 0
Differ name_of xs = AllPairs (λ a b. name_of a ≢ name_of b) xs

-- the first member with the name at a place is there
first_there : {X : Type 0} (name_of : X → List ℕ) (xs : List X) (i : ℕ) → Differ name_of xs → i < length xs → position_or_len (λ x. is_same (name_of x) (name_at name_of xs i)) xs ≡ i
first_there name_of [] i h lt = absurd (omega (arith, lt))
first_there name_of (x ∷ xs) zero h lt = rw (same_self (name_of x)) refl
first_there name_of (x ∷ xs) (suc i) h lt =
    let lower : i < length xs = omega (arith, lt) in
    let other : name_of x ≢ name_at name_of xs i = λ e. h zero (suc i) x (omega arith) lt (e ∙ name_there name_of xs i x lower) in
    rw (not_same (name_of x) (name_at name_of xs i) other) (ap (λ n. 1 + n) (first_there name_of xs i (pairs_tail (λ a b. name_of a ≢ name_of b) x xs h) lower) ∙ one_more i)
  where
    one_more : (n : ℕ) → 1 + n ≡ suc n
    one_more n = omega arith

-- no member before one has its name
pub earlier : {X : Type 0} (name_of : X → List ℕ) (before : List X) (x : X) (after : List X) → Differ name_of (before ++ x ∷ after) → All (λ b. name_of b ≢ name_of x) before
earlier name_of before x after h = pairs_before (λ a b. name_of a ≢ name_of b) before x after h

-- a list of names has a name where its members have it
names_first : {X : Type 0} (name_of : X → List ℕ) (xs : List X) (s : List ℕ) → position_or_len (λ n. is_same (itself n) s) (map name_of xs) ≡ position_or_len (λ x. is_same (name_of x) s) xs
names_first name_of [] s = refl
names_first name_of (x ∷ xs) s = rw (names_first name_of xs s) refl

pub names_position : {X : Type 0} (name_of : X → List ℕ) (xs : List X) (s : List ℕ) → position_of itself (map name_of xs) s ≡ position_of name_of xs s
names_position name_of xs s = rw (names_first name_of xs s, length-map xs name_of) refl

-- so it is found there
pub found_there : {X : Type 0} (name_of : X → List ℕ) (xs : List X) (i : ℕ) → Differ name_of xs → i < length xs → position_of name_of xs (name_at name_of xs i) ≡ Some i
found_there name_of xs i h lt =
    let e : nat_lt i (length xs) ≡ true = search (arith, lt) in
    rw (first_there name_of xs i h lt, e) refl

-- and what refers to it is read as its place
pub referred : {X : Type 0} (name_of : X → List ℕ) (xs : List X) (key : List ℕ) (d : Data) (i : ℕ) → get key d ≡ Some (string (name_at name_of xs i)) → Differ name_of xs → i < length xs → reference name_of xs key d ≡ Ok i
unfolding reference
referred name_of xs key d i e h lt = rw (text_read key d (string (name_at name_of xs i)) (name_at name_of xs i) e refl, found_there name_of xs i h lt) refl

-- the same in the list of names
pub name_referred : {X : Type 0} (name_of : X → List ℕ) (xs : List X) (key : List ℕ) (d : Data) (i : ℕ) → get key d ≡ Some (string (name_at name_of xs i)) → Differ name_of xs → i < length xs → reference itself (map name_of xs) key d ≡ Ok i
unfolding reference
name_referred name_of xs key d i e h lt = rw (text_read key d (string (name_at name_of xs i)) (name_at name_of xs i) e refl, names_position name_of xs (name_at name_of xs i), found_there name_of xs i h lt) refl
