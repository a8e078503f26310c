-- the names so far
use Rattle.std.proofs.Common.{◌≡◌, ◌++◌}
use Rattle.std.specs.List.{flat_map, range_with_len}
use Rattle.kit_rules.specs.Delivery.{has_bit}
use Rattle.kit_regions.specs.Text.{name_where}
use Rattle.kit_regions.proofs.text.push_members.Given as goal

abbrev pub invariant-loop-j : goal.invariant-loop-j
invariant-loop-j l = l.out.items ≡ l.initial.out.items ++ flat_map (name_where (has_bit l.mask) l.federates) (range_with_len 0 l.j)
