-- The rules of a federate.
use Rattle.std.specs.Prelude.{ℕ, List, [], ◌∷◌, ◌++◌, if◌then◌else◌, Option, Some, None, Result, Ok, codes}
use Rattle.serde_json.specs.Data.{Data}
use Rattle.serde_json.specs.Find.{get, as_str}
use Rattle.kit_rules.specs.Limits.{most_conds, most_rules}
use Rattle.kit_rules.specs.declared.table.Var.{Var}
use Rattle.kit_rules.specs.declared.table.Compare.{Compare}
use Rattle.kit_rules.specs.declared.table.Compare.TheVariants as compare
use Rattle.kit_rules.specs.declared.table.Cond.{Cond}
use Rattle.kit_rules.specs.declared.table.Trigger.{Trigger}
use Rattle.kit_rules.specs.declared.table.Trigger.TheVariants as trigger
use Rattle.kit_rules.specs.declared.table.Rule.{Rule}
use Rattle.kit_walk.specs.declared.fault.FaultKind.TheVariants as kind
use Rattle.kit_walk.specs.declared.fault.Fault.{Fault}
use Rattle.kit_file.specs.declared.known.Known.{Known}
use Rattle.kit_walk.specs.Paths.{key_path, item_path}
use Rattle.kit_walk.specs.Reading.{◌>>=◌, fault_at, within, or_fault, each}
use Rattle.kit_walk.specs.Places.{object, member, text, is_same, optional_list}
use Rattle.kit_file.specs.Names.{itself, reference}
use Rattle.kit_file.specs.Operands.{operand_of}
use Rattle.kit_file.specs.Actions.{actions_of}

-- the six comparisons, by name
unfoldable pub named_comparison : List ℕ → Option Compare
named_comparison s = if is_same s (codes "lt") then Some compare.Lt else (if is_same s (codes "le") then Some compare.Le else (if is_same s (codes "eq") then Some compare.Eq else (if is_same s (codes "ne") then Some compare.Ne else (if is_same s (codes "ge") then Some compare.Ge else (if is_same s (codes "gt") then Some compare.Gt else None)))))

-- what a condition asks of its two sides
unfoldable pub comparison_of : Data → Result Compare Fault
comparison_of d = do
  s ← text (codes "is") d
  or_fault kind.UnknownName (key_path (codes "is")) (named_comparison s)

-- a condition: left, is, right
unfoldable pub cond_of : List Var → Data → Result Cond Fault
cond_of vars d = do
  u ← object d
  left ← operand_of (codes "left") vars d
  test ← comparison_of d
  right ← operand_of (codes "right") vars d
  Ok (record { left = left; test = test; right = right })

-- one more condition, the i-th of the list if
unfoldable pub cond_step : List Var → ℕ → List Cond → Data → Result (List Cond) Fault
cond_step vars i done d = within (item_path (codes "if") i) (cond_of vars d) >>= λ c. Ok (done ++ c ∷ [])

-- the members of the list if, which may be absent
abbrev pub cond_list_of : Data → Result (List Data) Fault
cond_list_of d = optional_list (codes "if") most_conds (get (codes "if") d)

-- the list if
unfoldable pub conds_of : List Var → Data → Result (List Cond) Fault
conds_of vars d = do
  ds ← cond_list_of d
  each (cond_step vars) 0 [] ds

-- on a message to this group
unfoldable pub got_of : List (List ℕ) → Data → Result Trigger Fault
got_of groups d = do
  u ← object d
  g ← reference itself groups (codes "got") d
  Ok (trigger.Got g)

-- at the start, on a grant, or on a message
abbrev pub trigger_from : List (List ℕ) → Data → Option (List ℕ) → Result Trigger Fault
trigger_from groups v (Some s) = if is_same s (codes "start") then Ok trigger.Start else (if is_same s (codes "grant") then Ok trigger.Grant else fault_at kind.UnknownName (key_path (codes "on")))
trigger_from groups v None = within (key_path (codes "on")) (got_of groups v)

-- when a rule runs
unfoldable pub trigger_of : List (List ℕ) → Data → Result Trigger Fault
trigger_of groups d = do
  v ← member (codes "on") d
  trigger_from groups v (as_str v)

-- a rule: on, if, do, where these groups and targets are known
unfoldable pub rule_of : Known → List Var → Option ℕ → Data → Result Rule Fault
rule_of known vars lookahead d = do
  u ← object d
  on ← trigger_of known.groups d
  conds ← conds_of vars d
  actions ← actions_of known.targets vars lookahead d
  Ok (record { on = on; conds = conds; actions = actions })

-- one more rule, the i-th of the list rules
unfoldable pub rule_step : Known → List Var → Option ℕ → ℕ → List Rule → Data → Result (List Rule) Fault
rule_step known vars lookahead i done d = within (item_path (codes "rules") i) (rule_of known vars lookahead d) >>= λ r. Ok (done ++ r ∷ [])

-- the members of the list rules, which may be absent
abbrev pub rule_list_of : Data → Result (List Data) Fault
rule_list_of d = optional_list (codes "rules") most_rules (get (codes "rules") d)

-- the list rules
unfoldable pub rules_of : Known → List Var → Option ℕ → Data → Result (List Rule) Fault
rules_of known vars lookahead d = do
  ds ← rule_list_of d
  each (rule_step known vars lookahead) 0 [] ds
