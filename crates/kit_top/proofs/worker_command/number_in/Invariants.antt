use Rattle.kit_top.proofs.Decimals.{IsReading}
use Rattle.kit_top.proofs.worker_command.number_in.Given as goal

abbrev pub invariant-loop-digit : goal.invariant-loop-digit
invariant-loop-digit l = IsReading l.digits l.digit-index l.number
