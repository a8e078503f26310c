-- the federates below i have started
use Rattle.std.proofs.Common.{◌≡◌, [], map, find, None}
use Rattle.std.specs.List.{range_with_len, flat_map}
use Rattle.kit_rules.specs.Simulation.{Seat, seat_at_start, is_spent}
use Rattle.kit_oracle.specs.Desks.{desks_of_seats_from}
use Rattle.kit_oracle.proofs.opening.open_each.Given as goal

abbrev pub invariant-loop-i : goal.invariant-loop-i
invariant-loop-i l = record {
  desks : l.desks.items ≡ desks_of_seats_from l.federation [] 0 (map (seat_at_start l.federation) (range_with_len 0 l.i));
  made : l.made.items ≡ flat_map (λ (s : Seat). s.state.sends) (map (seat_at_start l.federation) (range_with_len 0 l.i));
  none : find is_spent l.made.items ≡ None;
}
