use Rattle.letter_rounds.specs.Quiet.{IsQuiet}
use Rattle.letter_rounds.proofs.rounds.send_round.Given as goal

abbrev pub invariant-loop-turn : goal.invariant-loop-turn
invariant-loop-turn l = IsQuiet l.floor
