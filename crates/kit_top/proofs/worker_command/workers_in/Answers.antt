use Rattle.std.proofs.Common.{◌≡◌, sym, ◌∙◌, arith}
use Rattle.std.proofs.lemmas.Fmt.{decimal_injective}
use Rattle.kit_top.proofs.worker_command.workers_in.Goals as goal
use Rattle.kit_top.proofs.worker_command.workers_in.Goals.{then-number-eq0-via-then-number-eq0, then-number-eq0-via-else-number-eq0+then-number-gt-MOST_WORKERS}

pub returns-then-number-eq0-clause-none : goal.returns-then-number-eq0-clause-none
returns-then-number-eq0-clause-none c n workers is =
    let same : c.in_ok-number.number ≡ n = decimal_injective c.in_ok-number.number n c.in_ok-number.ensures.room (omega (arith, workers.few)) (sym c.in_ok-number.ensures.some ∙ is) in
    elim c.then-number-eq0.branch [
      | then-number-eq0-via-then-number-eq0 w ↦ omega (arith, workers.some)
      | then-number-eq0-via-else-number-eq0+then-number-gt-MOST_WORKERS w ↦ omega (arith, workers.few)
    ]
