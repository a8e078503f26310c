-- the rules for the updates so far
use Rattle.std.proofs.Common.{◌≡◌, ◌++◌, map, filter, nat_eq, slice_index_or}
use Rattle.std.specs.List.{range_with_len}
use Rattle.kit_rules.specs.declared.table.Trigger.TheVariants.{Got}
use Rattle.kit_regions.specs.Plan.{no_update}
use Rattle.kit_regions.specs.Lowered.{with_trigger}
use Rattle.kit_regions.proofs.lowering.add_for_updates.Given as goal

abbrev pub invariant-loop-u : goal.invariant-loop-u
invariant-loop-u l = l.made ≡ l.initial.made ++ map (with_trigger l.rule) (map (λ u. Got u) (filter (λ u. nat_eq (slice_index_or l.updates u no_update).group l.group) (range_with_len 0 l.u)))
