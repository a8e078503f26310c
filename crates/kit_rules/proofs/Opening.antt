-- The variables of a federate that has run nothing.
use Rattle.std.proofs.Common.{◌≡◌, ℕ, suc, ◌+◌, ◌-◌, ◌<◌, List, ◌∷◌, ◌++◌, length, map, take, get_or, set, replicate, arith, refl, sym, ◌∙◌}
use Rattle.std.proofs.Math.Seq.{set-append_seam}
use Rattle.std.proofs.lemmas.List.{take_more, length-take, length-map, map-append, append_assoc}

-- one more value in the place of a 0
pub put_value : {X : Type 0} (f : X → ℕ) (xs : List X) (i : ℕ) (x : X) → i < length xs → i < 8 → x ≡ get_or xs i x
    → set (map f (take i xs) ++ replicate (8 - i) 0) i (f x) ≡ map f (take (i + 1) xs) ++ replicate (8 - (i + 1)) 0
put_value f xs i x h few is =
    let n : 8 - i ≡ suc (8 - (i + 1)) = omega arith in
    let len : length (map f (take i xs)) ≡ i = simp (length-map, length-take) (omega arith) in
    let e = set-append_seam (map f (take i xs)) 0 (replicate (8 - (i + 1)) 0) (f x) in
    let right : map f (take (i + 1) xs) ++ replicate (8 - (i + 1)) 0 ≡ map f (take i xs) ++ f x ∷ replicate (8 - (i + 1)) 0 =
    rw (take_more xs i x h, map-append, append_assoc, ← is) refl in
    rw n ((rw len at e) ∙ sym right)
