use Rattle.std.proofs.Common.{◌≡◌, [], map, length}
use Rattle.serde_json.specs.View.{view}
use Rattle.kit_walk.specs.Reading.{each}
use Rattle.kit_file.specs.Groups.{group_step}
use Rattle.kit_file.specs.SoFar.{AreGroupsSoFar}
use Rattle.kit_walk.proofs.Rest.{rest}
use Rattle.kit_file.proofs.groups.groups_in.Given as goal

abbrev pub invariant-loop-i : goal.invariant-loop-i
invariant-loop-i l = record {
  so_far : rest (group_step l.names) l.i l.done l.items ≡ each (group_step l.names) 0 [] (map view l.items);
  kept : AreGroupsSoFar (length l.names) l.done;
  count : length l.done ≡ l.i;
}
