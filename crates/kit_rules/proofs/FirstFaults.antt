-- From what holds of all before a place to what holds of one more.
use Rattle.std.proofs.Common.{◌≡◌, ◌≢◌, ◌∙◌, ℕ, ◌<◌, ◌≤◌, ◌+◌, List, [], ◌∷◌, ◌++◌, length, take, get_or, ap, sym, subst}
use Rattle.std.specs.List.{All, AllPairs}
use Rattle.std.proofs.lemmas.List.{take_all, take_more}
use Rattle.std.proofs.lemmas.List.Elements.{All-more}
use Rattle.std.proofs.lemmas.List.Quantifiers.{all_pairs_push}
use Rattle.kit_rules.specs.Names.{IsName}
use Rattle.kit_rules.specs.Faults.{AreNamed}

-- what holds of all in front of the end holds of all
pub all_through : {X : Type 0} (P : X → Type 0) (xs : List X) (n : ℕ) → length xs ≤ n → All P (take n xs) → All P xs
all_through {X} P xs n past all = let A : List X → Type 0 = λ ys. All P ys in subst A (take_all n xs past) all

-- and what holds of a place and of all before it
pub all_next : {X : Type 0} (P : X → Type 0) (xs : List X) (i : ℕ) (x : X) → i < length xs → x ≡ get_or xs i x → All P (take i xs) → P x → All P (take (i + 1) xs)
all_next P xs i x lt is all here = All-more P xs i x lt all (subst P is here)

-- names that differ, and one more that differs from them
pub pairs_next : {X : Type 0} (name_of : X → List ℕ) (xs : List X) (i : ℕ) (x : X) → i < length xs → x ≡ get_or xs i x → AllPairs (λ a b. name_of a ≢ name_of b) (take i xs)
    → All (λ b. name_of b ≢ name_of x) (take i xs) → AllPairs (λ a b. name_of a ≢ name_of b) (take (i + 1) xs)
pairs_next {X} name_of xs i x lt is pairs fresh =
    let P : List X → Type 0 = λ ys. AllPairs (λ a b. name_of a ≢ name_of b) ys in
    let e : take i xs ++ x ∷ [] ≡ take (i + 1) xs = ap (λ y. take i xs ++ y ∷ []) is ∙ sym (take_more xs i x lt) in
    subst P e (all_pairs_push (λ a b. name_of a ≢ name_of b) (take i xs) x pairs fresh)

-- and where all have names
pub named_next : {X : Type 0} (name_of : X → List ℕ) (xs : List X) (i : ℕ) (x : X) (n : List ℕ) → i < length xs → x ≡ get_or xs i x → n ≡ name_of x → AreNamed name_of (take i xs)
    → IsName n → All (λ b. name_of b ≢ n) (take i xs) → AreNamed name_of (take (i + 1) xs)
named_next {X} name_of xs i x n lt is called named is_name fresh =
    let P : List ℕ → Type 0 = λ m. IsName m in
    let Q : List ℕ → Type 0 = λ m. All (λ b. name_of b ≢ m) (take i xs) in
    record {
      names = all_next (λ y. IsName (name_of y)) xs i x lt is named.names (subst P called is_name);
      differ = pairs_next name_of xs i x lt is named.differ (subst Q called fresh);
    }
