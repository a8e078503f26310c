use Rattle.std.proofs.Common.{◌≡◌, [], map, length}
use Rattle.std.specs.List.{All}
use Rattle.serde_json.specs.View.{view}
use Rattle.kit_rules.specs.Federation.{IsCond}
use Rattle.kit_walk.specs.Reading.{each}
use Rattle.kit_file.specs.Rules.{cond_step}
use Rattle.kit_walk.proofs.Rest.{rest}
use Rattle.kit_file.proofs.rules.conds_in.Given as goal

abbrev pub invariant-loop-i : goal.invariant-loop-i
invariant-loop-i l = record {
  so_far : rest (cond_step l.vars) l.i l.done l.items ≡ each (cond_step l.vars) 0 [] (map view l.items);
  kept : All (IsCond (length l.vars)) l.done;
  count : length l.done ≡ l.i;
}
