use Rattle.std.proofs.Common.{◌≡◌, map, take}
use Rattle.serde_json.specs.View.{view}
use Rattle.kit_save.specs.Values.{cond_value}
use Rattle.kit_save.proofs.condition_values.conds_value.Given as goal

-- the values so far are those of the conditions so far
abbrev pub invariant-loop-cond : goal.invariant-loop-cond
invariant-loop-cond l = map view l.items.items ≡ map (cond_value l.vars) (take l.cond-index l.conds)
