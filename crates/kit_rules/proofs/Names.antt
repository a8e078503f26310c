-- Names that differ, one against those before it.
use Rattle.std.proofs.Common.{◌≡◌, ℕ, ◌<◌, List, length, get_or, take, arith, sym, ap, ◌∙◌}
use Rattle.std.specs.List.{All, AllPairs}
use Rattle.std.proofs.lemmas.List.{get_or-take, length-take, get_or_default}

-- where all differ, each before a place differs from that one
pub fresh_from_pairs : {X : Type 0} (name : X → List ℕ) (xs : List X) (i : ℕ) (a : X) (n : List ℕ) → i < length xs → a ≡ get_or xs i a → n ≡ name a
    → AllPairs (λ x y. name x ≡ name y → ⊥) xs → All (λ x. name x ≡ n → ⊥) (take i xs)
fresh_from_pairs name xs i a n h is called pairs k d below same =
    let lt : k < i = omega (arith, length-take i xs) in
    pairs k i d lt h (ap name (sym (get_or-take i xs k d lt)) ∙ same ∙ called ∙ ap name (is ∙ get_or_default xs i a d h))

-- one that differs from each before it
pub pair_from_fresh : {X : Type 0} (name : X → List ℕ) (xs : List X) (i : ℕ) (a : X) (n : List ℕ) → i < length xs → a ≡ get_or xs i a → n ≡ name a
    → All (λ x. name x ≡ n → ⊥) (take i xs) → (j : ℕ) (d : X) → j < i → name (get_or xs j d) ≡ name (get_or xs i d) → ⊥
pair_from_fresh name xs i a n h is called all j d lt same =
    let below : j < length (take i xs) = omega (arith, length-take i xs) in
    all j d below (ap name (get_or-take i xs j d lt) ∙ same ∙ ap name (sym (is ∙ get_or_default xs i a d h)) ∙ sym called)
