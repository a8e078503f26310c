-- the desks and the lines are those of the world after so many grants since the cut, and nobody has taken number 16,385
use Rattle.std.proofs.Common.{◌≡◌, [], find, None}
use Rattle.kit_rules.specs.Simulation.{lines_of, is_spent}
use Rattle.kit_cut.specs.SinceCut.{desks_of_world_since}
use Rattle.kit_cut.proofs.Since.{Since}
use Rattle.kit_cut.proofs.FitSince.{FitSince}
use Rattle.kit_cut.proofs.Onward.{world_later}
use Rattle.kit_cut.proofs.resume.run_on.Given as goal

abbrev pub invariant-loop-turn : goal.invariant-loop-turn
invariant-loop-turn l = record {
  desks : l.desks.items ≡ desks_of_world_since l.federation l.cut (world_later l.federation l.cut l._turn);
  made : l.made.items ≡ [];
  lines : l.lines.items ≡ lines_of (world_later l.federation l.cut l._turn).blocks;
  none : find is_spent (world_later l.federation l.cut l._turn).messages ≡ None;
  since : Since l.federation l.cut (world_later l.federation l.cut l._turn);
  fit : FitSince l.federation (world_later l.federation l.cut l._turn);
}
