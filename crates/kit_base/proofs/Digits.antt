-- Digits written from the last to the first.
use Rattle.std.proofs.Common.{◌≡◌, ℕ, ◌+◌, ◌-◌, ◌/◌, ◌%◌, ◌^◌, ◌<◌, ◌≤◌, List, [], ◌∷◌, ◌++◌, length, drop, set, arith, sym, ap, ◌∙◌, length-append, length-drop, lit<}
use Rattle.std.specs.Fmt.{decimal}
use Rattle.std.proofs.lemmas.Fmt.{decimal_step, decimal_digit, length-decimal-le, decimal_nonempty}
use Rattle.std.proofs.lemmas.List.{append_assoc, drop-set}

-- while digits are left there is room for one more
pub room : (n rest at : ℕ) (digits : List ℕ) → n < 2 ^ 64 → rest ≤ n → length digits ≡ 20 → decimal n ≡ decimal rest ++ drop at digits → 1 ≤ at
room n rest at digits fits small size e =
    let r : rest < 2 ^ 64 = omega arith in
    omega (arith, length-decimal-le 20 n (lit< tt) (omega arith) fits, decimal_nonempty rest r, ap length e, length-append (decimal rest) (drop at digits), length-drop at digits)

-- a digit of a number of two or more goes before those that are there
pub step : (n rest at : ℕ) (digits : List ℕ) → rest < 2 ^ 64 → 10 ≤ rest → 1 ≤ at → at ≤ 20 → length digits ≡ 20 → decimal n ≡ decimal rest ++ drop at digits
    → decimal n ≡ decimal (rest / 10) ++ drop (at - 1) (set digits (at - 1) (rest % 10 + 48))
step n rest at digits fits big low high size e =
    let here : drop (at - 1) (set digits (at - 1) (rest % 10 + 48)) ≡ (rest % 10 + 48) ∷ drop (at - 1 + 1) digits = drop-set digits (at - 1) (rest % 10 + 48) (omega arith) in
    let back : at - 1 + 1 ≡ at = omega arith in
    let same : rest % 10 + 48 ≡ 48 + rest % 10 = omega arith in
    e ∙ ap (λ ds. ds ++ drop at digits) (decimal_step rest big fits) ∙ append_assoc (decimal (rest / 10)) ((48 + rest % 10) ∷ []) (drop at digits)
    ∙ sym (ap (λ ds. decimal (rest / 10) ++ ds) (here ∙ ap (λ k. (rest % 10 + 48) ∷ drop k digits) back ∙ ap (λ x. x ∷ drop at digits) same))

-- and so does the one that is left
pub last : (n rest at : ℕ) (digits : List ℕ) → rest < 10 → 1 ≤ at → at ≤ 20 → length digits ≡ 20 → decimal n ≡ decimal rest ++ drop at digits
    → drop (at - 1) (set digits (at - 1) (rest + 48)) ≡ decimal n
last n rest at digits small low high size e =
    let here : drop (at - 1) (set digits (at - 1) (rest + 48)) ≡ (rest + 48) ∷ drop (at - 1 + 1) digits = drop-set digits (at - 1) (rest + 48) (omega arith) in
    let back : at - 1 + 1 ≡ at = omega arith in
    let same : rest + 48 ≡ 48 + rest = omega arith in
    here ∙ ap (λ k. (rest + 48) ∷ drop k digits) back ∙ ap (λ x. x ∷ drop at digits) same ∙ sym (e ∙ ap (λ ds. ds ++ drop at digits) (decimal_digit rest small))
