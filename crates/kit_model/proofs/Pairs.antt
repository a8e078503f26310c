-- A relation between each element and those behind it.
use Rattle.std.proofs.Common.{◌≡◌, suc, ◌<◌, ◌+◌, List, [], ◌∷◌, ◌++◌, length, get_or, arith, subst, length-append}
use Rattle.std.specs.List.{All, AllPairs}
use Rattle.std.proofs.Math.ListN.{get_or-append}
use Rattle.std.proofs.Math.Seq.{get_or-append_seam}
use Rattle.std.proofs.lemmas.List.Elements.{All-append, All-head, All-tail}
use Rattle.std.proofs.lemmas.List.Kept.{AllPairs-cons}

-- the first stands so to each of the others
pub pairs_head : {X : Type 0} (R : X → X → Type 0) (x : X) (xs : List X) → AllPairs R (x ∷ xs) → All (R x) xs
pairs_head R x xs h k d lt = h 0 (suc k) d (omega arith) (omega arith)

pub pairs_tail : {X : Type 0} (R : X → X → Type 0) (x : X) (xs : List X) → AllPairs R (x ∷ xs) → AllPairs R xs
pairs_tail R x xs h i j d lt le = h (suc i) (suc j) d (omega arith) (omega arith)

pub pairs_front : {X : Type 0} (R : X → X → Type 0) (xs ys : List X) → AllPairs R (xs ++ ys) → AllPairs R xs
pairs_front R xs ys h i j d lt le =
    let low : i < length xs = omega arith in
    let whole : length (xs ++ ys) ≡ length xs + length ys = length-append xs ys in
    let both = h i j d lt (omega arith) in
    let first = subst (λ x. R x (get_or (xs ++ ys) j d)) (get_or-append xs ys d i low) both in
    subst (λ y. R (get_or xs i d) y) (get_or-append xs ys d j le) first

-- each stands so to the last
pub pairs_last : {X : Type 0} (R : X → X → Type 0) (xs : List X) (y : X) → AllPairs R (xs ++ y ∷ []) → All (λ x. R x y) xs
pairs_last R xs y h k d lt =
    let whole : length (xs ++ y ∷ []) ≡ length xs + 1 = length-append xs (y ∷ []) in
    let both = h k (length xs) d lt (omega arith) in
    let first = subst (λ x. R x (get_or (xs ++ y ∷ []) (length xs) d)) (get_or-append xs (y ∷ []) d k lt) both in
    subst (λ z. R (get_or xs k d) z) (get_or-append_seam xs y [] d) first

-- two lists whose elements stand so, each of the first to each of the second too, are one such list
pub pairs_append : {X : Type 0} (R : X → X → Type 0) (xs ys : List X) → AllPairs R xs → AllPairs R ys → All (λ (x : X). All (R x) ys) xs → AllPairs R (xs ++ ys)
pairs_append R [] ys a b across = b
pairs_append R (x ∷ xs) ys a b across =
    AllPairs-cons R x (xs ++ ys)
    (All-append (R x) xs ys (pairs_head R x xs a) (All-head (λ z. All (R z) ys) x xs across))
    (pairs_append R xs ys (pairs_tail R x xs a) b (All-tail (λ z. All (R z) ys) x xs across))
