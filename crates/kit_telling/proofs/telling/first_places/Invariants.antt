use Rattle.std.proofs.Common.{◌≡◌, map, take}
use Rattle.kit_telling.specs.Tellings.{first_place}
use Rattle.kit_telling.proofs.telling.first_places.Given as goal

abbrev pub invariant-loop-node : goal.invariant-loop-node
invariant-loop-node l = l.places.items ≡ map first_place (take l.node-index l.nodes)
