-- those below the place stand
use Rattle.std.proofs.Common.{ℕ, ◌<◌, get_or}
use Rattle.kit_cut.specs.ValidCuts.{IsStanding, nobody_stands}
use Rattle.kit_cut.proofs.valid.are_standing.Given as goal

abbrev pub invariant-loop-i : goal.invariant-loop-i
invariant-loop-i l = (i : ℕ) → i < l.i → IsStanding l.federation l.at l.nexts i (get_or l.standings i nobody_stands)
