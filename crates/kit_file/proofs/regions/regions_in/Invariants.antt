use Rattle.std.proofs.Common.{◌≡◌, [], map, length}
use Rattle.serde_json.specs.View.{view}
use Rattle.kit_walk.specs.Reading.{each}
use Rattle.kit_file.specs.Regions.{region_step}
use Rattle.kit_file.specs.SoFar.{AreUpdatesSoFar}
use Rattle.kit_walk.proofs.Rest.{rest}
use Rattle.kit_file.proofs.regions.regions_in.Given as goal

abbrev pub invariant-loop-i : goal.invariant-loop-i
invariant-loop-i l = record {
  so_far : rest (region_step l.groups) l.i l.done l.items ≡ each (region_step l.groups) 0 [] (map view l.items);
  kept : AreUpdatesSoFar (length l.groups) l.done;
  count : length l.done ≡ l.i;
}
