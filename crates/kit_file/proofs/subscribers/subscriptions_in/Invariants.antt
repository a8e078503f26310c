use Rattle.std.proofs.Common.{◌≡◌, [], map, length}
use Rattle.std.specs.List.{All}
use Rattle.serde_json.specs.View.{view}
use Rattle.kit_walk.specs.Reading.{each}
use Rattle.kit_file.specs.Subscribers.{subscription_step}
use Rattle.kit_file.specs.SoFar.{IsSubscriptionTo}
use Rattle.kit_walk.proofs.Rest.{rest}
use Rattle.kit_file.proofs.subscribers.subscriptions_in.Given as goal

abbrev pub invariant-loop-i : goal.invariant-loop-i
invariant-loop-i l = record {
  so_far : rest (subscription_step l.names l.group) l.i l.done l.items ≡ each (subscription_step l.names l.group) 0 [] (map view l.items);
  kept : All (IsSubscriptionTo l.group (length l.names)) l.done;
  count : length l.done ≡ l.i;
}
