-- the desks and the lines are those of the world after so many grants, all of them due by the time, and nobody has taken number 16,385
use Rattle.std.proofs.Common.{◌≡◌, [], find, None}
use Rattle.kit_laws.proofs.Sane.{IsSane}
use Rattle.kit_rules.specs.Simulation.{world_at_start, after_grants, lines_of, is_spent}
use Rattle.kit_oracle.specs.Desks.{desks_of}
use Rattle.kit_cut.proofs.ByTime.{AllDue}
use Rattle.kit_cut.proofs.upto.run_upto.Given as goal

abbrev pub invariant-loop-turn : goal.invariant-loop-turn
invariant-loop-turn l = record {
  desks : l.desks.items ≡ desks_of l.federation (after_grants l.federation l._turn (world_at_start l.federation));
  made : l.made.items ≡ [];
  lines : l.lines.items ≡ lines_of (after_grants l.federation l._turn (world_at_start l.federation)).blocks;
  due : AllDue l.federation l.time l._turn;
  none : find is_spent (after_grants l.federation l._turn (world_at_start l.federation)).messages ≡ None;
  sane : IsSane l.federation (after_grants l.federation l._turn (world_at_start l.federation)).seats;
}
