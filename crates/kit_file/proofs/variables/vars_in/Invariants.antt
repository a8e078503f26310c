use Rattle.std.proofs.Common.{◌≡◌, [], map, length}
use Rattle.serde_json.specs.View.{view}
use Rattle.kit_walk.specs.Reading.{each}
use Rattle.kit_file.specs.Variables.{var_step}
use Rattle.kit_file.specs.Names.{var_name}
use Rattle.kit_file.specs.SoFar.{AreNames}
use Rattle.kit_walk.proofs.Rest.{rest}
use Rattle.kit_file.proofs.variables.vars_in.Given as goal

abbrev pub invariant-loop-i : goal.invariant-loop-i
invariant-loop-i l = record {
  so_far : rest var_step l.i l.done l.items ≡ each var_step 0 [] (map view l.items);
  given : AreNames var_name l.done;
  count : length l.done ≡ l.i;
}
