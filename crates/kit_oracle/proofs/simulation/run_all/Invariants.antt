-- the desks and the observer are those of the world after so many grants, and nobody has taken number 16,385
use Rattle.std.proofs.Common.{◌≡◌, [], find, None}
use Rattle.kit_laws.proofs.Sane.{IsSane}
use Rattle.kit_rules.specs.Simulation.{world_at_start, after_grants, lines_of, is_spent}
use Rattle.kit_oracle.specs.Desks.{desks_of}
use Rattle.kit_oracle.proofs.simulation.run_all.Given as goal

abbrev pub invariant-loop-turn : goal.invariant-loop-turn
invariant-loop-turn g l = record {
  desks : l.desks.items ≡ desks_of l.federation (after_grants l.federation l._turn (world_at_start l.federation));
  made : l.made.items ≡ [];
  shows : g.O.Observer.shows l.federation l._turn (lines_of (after_grants l.federation l._turn (world_at_start l.federation)).blocks) l.observer;
  none : find is_spent (after_grants l.federation l._turn (world_at_start l.federation)).messages ≡ None;
  sane : IsSane l.federation (after_grants l.federation l._turn (world_at_start l.federation)).seats;
}
