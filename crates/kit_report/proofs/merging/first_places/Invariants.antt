use Rattle.std.proofs.Common.{◌≡◌, map, take}
use Rattle.kit_report.specs.Merges.{first_place}
use Rattle.kit_report.proofs.merging.first_places.Given as goal

abbrev pub invariant-loop-part : goal.invariant-loop-part
invariant-loop-part l = l.places.items ≡ map first_place (take l.part-index l.parts)
