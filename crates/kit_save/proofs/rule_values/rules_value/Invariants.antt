use Rattle.std.proofs.Common.{◌≡◌, map, take}
use Rattle.serde_json.specs.View.{view}
use Rattle.kit_save.specs.Values.{rule_value}
use Rattle.kit_save.proofs.rule_values.rules_value.Given as goal

-- the values so far are those of the rules so far
abbrev pub invariant-loop-rule : goal.invariant-loop-rule
invariant-loop-rule l = map view l.items.items ≡ map (rule_value l.groups l.federate.vars) (take l.rule-index l.rules)
