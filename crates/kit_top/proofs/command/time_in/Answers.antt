use Rattle.std.proofs.Common.{◌≡◌, ℕ, List, get_or, sym, ap, ◌∙◌, arith, decimal}
use Rattle.std.proofs.lemmas.Fmt.{decimal_injective}
use Rattle.kit_top.proofs.command.time_in.Goals as goal

pub returns-then-time-gt-MOST_TIME-clause-none : goal.returns-then-time-gt-MOST_TIME-clause-none
returns-then-time-gt-MOST_TIME-clause-none c time low is =
    let word : c.bytes.result.now ≡ decimal time = c.bytes.ensures ∙ c.word-item.is ∙ ap (λ (ws : List (List ℕ)). get_or ws 0 c.word-item.result) is in
    let same : c.in_ok-time.time ≡ time = decimal_injective c.in_ok-time.time time c.in_ok-time.ensures.room (omega (arith, low)) (sym c.in_ok-time.ensures.some ∙ word) in
    absurd (omega (arith, low, same, c.if-time-gt-MOST_TIME.true))
