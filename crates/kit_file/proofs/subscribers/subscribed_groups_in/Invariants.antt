use Rattle.std.proofs.Common.{◌≡◌, map, length}
use Rattle.serde_json.specs.View.{view}
use Rattle.kit_walk.specs.Reading.{each}
use Rattle.kit_file.specs.Subscribers.{subscribed_step, none_subscribed}
use Rattle.kit_file.specs.SoFar.{AreSubscribed}
use Rattle.kit_walk.proofs.Rest.{rest}
use Rattle.kit_file.proofs.subscribers.subscribed_groups_in.Given as goal

abbrev pub invariant-loop-i : goal.invariant-loop-i
invariant-loop-i l = record {
  so_far : rest (subscribed_step l.names) l.i l.done l.items ≡ each (subscribed_step l.names) 0 none_subscribed (map view l.items);
  kept : AreSubscribed (length l.names) l.done;
  count : length l.done.groups ≡ l.i;
}
