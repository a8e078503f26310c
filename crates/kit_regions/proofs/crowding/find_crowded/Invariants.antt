-- none so far is crowded
use Rattle.std.proofs.Common.{◌≡◌, find, None}
use Rattle.std.specs.List.{range_with_len}
use Rattle.std.specs.Prelude.{slice_index_or}
use Rattle.kit_rules.specs.Parts.{nobody}
use Rattle.kit_regions.specs.Lowered.{is_crowded}
use Rattle.kit_regions.proofs.crowding.find_crowded.Given as goal

abbrev pub invariant-loop-i : goal.invariant-loop-i
invariant-loop-i l = find (λ i. is_crowded l.updates (slice_index_or l.federates i nobody)) (range_with_len 0 l.i) ≡ None
