use Rattle.std.proofs.Common.{◌≡◌, [], map, length}
use Rattle.std.specs.List.{All}
use Rattle.serde_json.specs.View.{view}
use Rattle.kit_regions.specs.Limits.{IsPlannedRule}
use Rattle.kit_walk.specs.Reading.{each}
use Rattle.kit_file.specs.Rules.{rule_step}
use Rattle.kit_walk.proofs.Rest.{rest}
use Rattle.kit_file.proofs.rules.rules_in.Given as goal

abbrev pub invariant-loop-i : goal.invariant-loop-i
invariant-loop-i l = record {
  so_far : rest (rule_step l.known l.vars l.lookahead) l.i l.done l.items ≡ each (rule_step l.known l.vars l.lookahead) 0 [] (map view l.items);
  kept : All (IsPlannedRule (length l.known.groups) (length l.known.targets) (length l.vars) l.lookahead) l.done;
  count : length l.done ≡ l.i;
}
