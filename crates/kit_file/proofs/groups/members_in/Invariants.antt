use Rattle.std.proofs.Common.{◌≡◌, map, length, ◌<◌, ◌^◌}
use Rattle.serde_json.specs.View.{view}
use Rattle.kit_walk.specs.Reading.{each}
use Rattle.kit_file.specs.Groups.{member_step}
use Rattle.kit_walk.proofs.Rest.{rest}
use Rattle.kit_file.proofs.groups.members_in.Given as goal

abbrev pub invariant-loop-i : goal.invariant-loop-i
invariant-loop-i l = record {
  so_far : rest (member_step l.names) l.i l.bits l.items ≡ each (member_step l.names) 0 0 (map view l.items);
  fits : l.bits < 2 ^ length l.names;
}
