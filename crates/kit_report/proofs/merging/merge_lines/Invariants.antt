use Rattle.std.specs.List.{sum_by}
use Rattle.kit_report.specs.Merges.{left_in}
use Rattle.kit_report.proofs.Places.{IsUnderWay, part_rest}
use Rattle.kit_report.proofs.merging.merge_lines.Given as goal

abbrev pub invariant-loop-at : goal.invariant-loop-at
invariant-loop-at l = IsUnderWay l.parts (part_rest l.parts) l.places.items l.lines

abbrev pub decreases-loop-at : goal.decreases-loop-at
decreases-loop-at l = sum_by left_in l.places.items
