use Rattle.std.proofs.Common.{◌≡◌, ℕ, List, ◌∷◌, ◌++◌, ap, ◌∙◌, codes, decimal, drop, arith}
use Rattle.std.proofs.lemmas.List.{drop_all}
use Rattle.kit_rules.specs.Text.{value_text}
use Rattle.kit_report.proofs.Joined.{turned}
use Rattle.kit_report.proofs.history_text.write_numbers.Goals as goal

pub returns-clause-written : goal.returns-clause-written
returns-clause-written c =
    let m = c.args.message.now in
    let end : drop c.put_byte-end.result c.put_byte-end.new.room ≡ codes "\n" =
    c.put_byte-end.ensures.written ∙ ap (λ (xs : List ℕ). 10 ∷ xs) (drop_all 80 c.args.room.now (omega (arith, c.requires))) in
    let value : drop c.put_number-value.result c.put_number-value.new.room ≡ decimal m.value ++ codes "\n" =
    c.put_number-value.ensures.written ∙ ap (λ (xs : List ℕ). decimal m.value ++ xs) end in
    let equals : drop c.put_byte-sign-3.result c.put_byte-sign-3.new.room ≡ codes " = " ++ (decimal m.value ++ codes "\n") =
    c.put_byte-sign-3.ensures.written ∙ ap (λ (xs : List ℕ). 32 ∷ xs) (c.put_byte-sign-2.ensures.written ∙ ap (λ (xs : List ℕ). 61 ∷ xs) (c.put_byte-sign.ensures.written ∙ ap (λ (xs : List ℕ). 32 ∷ xs) value)) in
    let time : drop c.put_number-time.result c.put_number-time.new.room ≡ decimal m.time ++ codes " = " ++ decimal m.value ++ codes "\n" =
    c.put_number-time.ensures.written ∙ ap (λ (xs : List ℕ). decimal m.time ++ xs) equals ∙ turned (decimal m.time) (codes " = ") (decimal m.value) (codes "\n") in
    let at : drop c.put_byte-sign-5.result c.put_byte-sign-5.new.room ≡ value_text m =
    c.put_byte-sign-5.ensures.written ∙ ap (λ (xs : List ℕ). 32 ∷ xs) (c.put_byte-sign-4.ensures.written ∙ ap (λ (xs : List ℕ). 64 ∷ xs) time) in
    let number : drop c.put_number-number.result c.put_number-number.new.room ≡ decimal m.number ++ value_text m =
    c.put_number-number.ensures.written ∙ ap (λ (xs : List ℕ). decimal m.number ++ xs) at in
    c.put_byte.ensures.written ∙ ap (λ (xs : List ℕ). 35 ∷ xs) number
