use Rattle.std.proofs.Common.{◌≡◌, [], map, length}
use Rattle.serde_json.specs.View.{view}
use Rattle.kit_walk.specs.Reading.{each}
use Rattle.kit_file.specs.Federates.{federate_step}
use Rattle.kit_file.specs.SoFar.{AreFederatesSoFar}
use Rattle.kit_walk.proofs.Rest.{rest}
use Rattle.kit_file.proofs.federates.federates_in.Given as goal

abbrev pub invariant-loop-i : goal.invariant-loop-i
invariant-loop-i l = record {
  so_far : rest (federate_step l.version l.names l.known) l.i l.done l.items ≡ each (federate_step l.version l.names l.known) 0 [] (map view l.items);
  kept : AreFederatesSoFar (length l.known.groups) (length l.known.targets) l.names l.done;
  count : length l.done ≡ l.i;
}
