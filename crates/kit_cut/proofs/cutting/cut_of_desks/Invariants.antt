-- what is kept so far, and what will be kept of the desks that are left
use Rattle.std.proofs.Common.{◌≡◌, ◌+◌, ◌++◌, ◌≤◌, length, All}
use Rattle.kit_oracle.specs.declared.desk.Desk.{Desk}
use Rattle.kit_cut.specs.Desks.{next_of_desks, standings_of_desks}
use Rattle.kit_cut.proofs.cutting.cut_of_desks.Given as goal

abbrev pub invariant-loop-i : goal.invariant-loop-i
invariant-loop-i l = record {
  each : length l.desks.items + l.i ≡ length l.federation.federates;
  now : All (λ (d : Desk). d.now ≤ l.federation.end) l.desks.items;
  next : l.next ++ next_of_desks l.desks.items ≡ next_of_desks l.initial.desks.items;
  federates : l.federates ++ standings_of_desks l.federation l.i l.desks.items ≡ standings_of_desks l.federation 0 l.initial.desks.items;
}
