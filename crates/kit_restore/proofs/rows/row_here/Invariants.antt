use Rattle.std.proofs.Common.{◌≡◌, [], map, length}
use Rattle.serde_json.specs.View.{view}
use Rattle.kit_walk.specs.Reading.{each}
use Rattle.kit_restore.specs.CutWalk.{row_step}
use Rattle.kit_walk.proofs.Rest.{rest}
use Rattle.kit_restore.proofs.rows.row_here.Given as goal

abbrev pub invariant-loop-i : goal.invariant-loop-i
invariant-loop-i l = record {
  so_far : rest row_step l.i l.done.items l.items ≡ each row_step 0 [] (map view l.items);
  count : length l.done.items ≡ l.i;
}
