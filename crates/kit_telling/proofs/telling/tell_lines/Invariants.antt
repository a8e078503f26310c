use Rattle.std.specs.List.{sum_by}
use Rattle.kit_report.specs.Merges.{left_in}
use Rattle.kit_telling.proofs.Nodes.{IsTelling}
use Rattle.kit_telling.proofs.telling.tell_lines.Given as goal

abbrev pub invariant-loop-at : goal.invariant-loop-at
invariant-loop-at l = IsTelling l.federation l.nodes l.places.items l.fn.text.items l.text.items

abbrev pub decreases-loop-at : goal.decreases-loop-at
decreases-loop-at l = sum_by left_in l.places.items
