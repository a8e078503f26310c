-- Filters by tests that agree.
use Rattle.std.proofs.Common.{◌≡◌, inl, inr, Bool, true, false, cond, List, [], ◌∷◌, filter, refl, sym, ap}
use Rattle.kit_parts.proofs.Among.{Among}

-- tests that agree on a list
pub filter_same : {X : Type 0} (a b : X → Bool) (xs : List X) → ((x : X) → Among x xs → a x ≡ b x) → filter a xs ≡ filter b xs
filter_same a b [] h = refl
filter_same a b (x ∷ xs) h = rw (h x (inl refl)) (ap (λ ys. cond (b x) (x ∷ ys) ys) (filter_same a b xs (λ y m. h y (inr m))))

-- two answers that follow from each other are one
pub same_answer : (a b : Bool) → (a ≡ true → b ≡ true) → (b ≡ true → a ≡ true) → a ≡ b
same_answer true b to back = sym (to refl)
same_answer false true to back = back refl
same_answer false false to back = refl
