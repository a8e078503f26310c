use Rattle.std.proofs.Common.{◌≡◌, [], map, length}
use Rattle.std.specs.List.{All}
use Rattle.serde_json.specs.View.{view}
use Rattle.kit_rules.specs.Federation.{IsAction}
use Rattle.kit_walk.specs.Reading.{each}
use Rattle.kit_file.specs.Actions.{action_step}
use Rattle.kit_walk.proofs.Rest.{rest}
use Rattle.kit_file.proofs.actions.actions_in.Given as goal

abbrev pub invariant-loop-i : goal.invariant-loop-i
invariant-loop-i l = record {
  so_far : rest (action_step l.targets l.vars l.lookahead) l.i l.done l.items ≡ each (action_step l.targets l.vars l.lookahead) 0 [] (map view l.items);
  kept : All (IsAction (length l.targets) (length l.vars) l.lookahead) l.done;
  count : length l.done ≡ l.i;
}
