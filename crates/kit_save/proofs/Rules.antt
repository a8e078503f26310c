-- Rules come back.
use Rattle.std.proofs.Common.{◌≡◌, ℕ, ◌≤◌, List, length, map, Option, Some, Ok, codes, refl}
use Rattle.std.specs.List.{All}
use Rattle.serde_json.specs.Data.{Data}
use Rattle.serde_json.specs.Find.{get, as_str}
use Rattle.kit_rules.specs.declared.table.Var.{Var}
use Rattle.kit_rules.specs.declared.table.Group.{Group}
use Rattle.kit_rules.specs.declared.table.Cond.{Cond}
use Rattle.kit_rules.specs.declared.table.Trigger.{Trigger}
use Rattle.kit_rules.specs.declared.table.Trigger.TheVariants as trigger
use Rattle.kit_rules.specs.declared.table.Action.{Action}
use Rattle.kit_rules.specs.declared.table.Rule.{Rule}
use Rattle.kit_rules.specs.Federation.{IsCond, IsTrigger, IsAction, IsRule, AreVars}
use Rattle.kit_rules.specs.Limits.{most_conds, most_actions, most_rules}
use Rattle.kit_walk.specs.Places.{object, member}
use Rattle.kit_file.specs.Names.{group_name}
use Rattle.kit_file.specs.Rules.{cond_of, cond_step, cond_list_of, conds_of, got_of, trigger_from, trigger_of, rule_of, rule_step, rule_list_of, rules_of}
use Rattle.kit_file.specs.Actions.{action_of, action_step, action_list_of, actions_of}
use Rattle.kit_file.proofs.Ranges.{lists_are_taken}
use Rattle.kit_save.specs.Values.{list_value, cond_value, trigger_value, action_value, rule_value}
use Rattle.kit_save.specs.Widths.{IsWordCond, IsWordAction, IsWordRule}
use Rattle.kit_save.proofs.Lists.{both, member_read, values_read, list_read, all_both, each_by_itself}
use Rattle.kit_save.proofs.Names.{Differ, name_referred}
use Rattle.kit_save.proofs.Conds.{cond_taken}
use Rattle.kit_save.proofs.Actions.{action_taken}

-- the list if
pub conds_taken : (vars : List Var) (d : Data) (cs : List Cond) → get (codes "if") d ≡ Some (list_value (cond_value vars) cs) → AreVars vars → length cs ≤ most_conds → All (IsCond (length vars)) cs → All IsWordCond cs → conds_of vars d ≡ Ok cs
unfolding conds_of cond_step
conds_taken vars d cs e h few is word =
    list_read (cond_list_of d) (cond_step vars) (cond_value vars) cs
    (values_read (codes "if") (λ n. n ≤ most_conds) cond_list_of (cond_value vars) cs d lists_are_taken.conds e few)
    (each_by_itself (codes "if") (cond_of vars) (cond_value vars) (λ c. IsCond (length vars) c × IsWordCond c) cs (λ c k. cond_taken vars c h k.0 k.1) (all_both (IsCond (length vars)) IsWordCond cs is word))

-- the list do
pub actions_taken : (groups : List Group) (vars : List Var) (lookahead : Option ℕ) (d : Data) (acts : List Action) → get (codes "do") d ≡ Some (list_value (action_value groups vars) acts) → Differ group_name groups → AreVars vars → length acts ≤ most_actions → All (IsAction (length groups) (length vars) lookahead) acts → All IsWordAction acts → actions_of (map group_name groups) vars lookahead d ≡ Ok acts
unfolding actions_of action_step
actions_taken groups vars lookahead d acts e differ h few is word =
    list_read (action_list_of d) (action_step (map group_name groups) vars lookahead) (action_value groups vars) acts
    (values_read (codes "do") (λ n. n ≤ most_actions) action_list_of (action_value groups vars) acts d lists_are_taken.actions e few)
    (each_by_itself (codes "do") (action_of (map group_name groups) vars lookahead) (action_value groups vars) (λ a. IsAction (length groups) (length vars) lookahead a × IsWordAction a) acts (λ a k. action_taken groups vars lookahead a differ h k.0 k.1) (all_both (IsAction (length groups) (length vars) lookahead) IsWordAction acts is word))

-- what a trigger's value says
trigger_said : (groups : List Group) (t : Trigger) → Differ group_name groups → IsTrigger (length groups) t → trigger_from (map group_name groups) (trigger_value groups t) (as_str (trigger_value groups t)) ≡ Ok t
unfolding got_of object
trigger_said groups trigger.Start differ is = refl
trigger_said groups trigger.Grant differ is = refl
trigger_said groups (trigger.Got g) differ is = rw (name_referred group_name groups (codes "got") (trigger_value groups (trigger.Got g)) g refl differ is) refl

-- when a rule runs
trigger_taken : (groups : List Group) (d : Data) (t : Trigger) → get (codes "on") d ≡ Some (trigger_value groups t) → Differ group_name groups → IsTrigger (length groups) t → trigger_of (map group_name groups) d ≡ Ok t
unfolding trigger_of
trigger_taken groups d t e differ is =
    both (member (codes "on") d) (trigger_value groups t) (λ v. trigger_from (map group_name groups) v (as_str v)) t (member_read (codes "on") d (trigger_value groups t) e) (trigger_said groups t differ is)

-- a rule
rule_taken : (groups : List Group) (vars : List Var) (lookahead : Option ℕ) (r : Rule) → Differ group_name groups → AreVars vars → IsRule (length groups) (length vars) lookahead r → IsWordRule r → rule_of (record { groups = map group_name groups; targets = map group_name groups }) vars lookahead (rule_value groups vars r) ≡ Ok r
unfolding rule_of object
rule_taken groups vars lookahead r differ h is word =
    rw (
      trigger_taken groups (rule_value groups vars r) r.on refl differ is.on,
      conds_taken vars (rule_value groups vars r) r.conds refl h is.few_conds is.conds word.0,
      actions_taken groups vars lookahead (rule_value groups vars r) r.actions refl differ h is.few_actions is.actions word.1,
    ) refl

-- the list rules
pub rules_taken : (groups : List Group) (vars : List Var) (lookahead : Option ℕ) (d : Data) (rs : List Rule) → get (codes "rules") d ≡ Some (list_value (rule_value groups vars) rs) → Differ group_name groups → AreVars vars → length rs ≤ most_rules → All (IsRule (length groups) (length vars) lookahead) rs → All IsWordRule rs → rules_of (record { groups = map group_name groups; targets = map group_name groups }) vars lookahead d ≡ Ok rs
unfolding rules_of rule_step
rules_taken groups vars lookahead d rs e differ h few is word =
    list_read (rule_list_of d) (rule_step (record { groups = map group_name groups; targets = map group_name groups }) vars lookahead) (rule_value groups vars) rs
    (values_read (codes "rules") (λ n. n ≤ most_rules) rule_list_of (rule_value groups vars) rs d lists_are_taken.rules e few)
    (each_by_itself (codes "rules") (rule_of (record { groups = map group_name groups; targets = map group_name groups }) vars lookahead) (rule_value groups vars) (λ r. IsRule (length groups) (length vars) lookahead r × IsWordRule r) rs (λ r k. rule_taken groups vars lookahead r differ h k.0 k.1) (all_both (IsRule (length groups) (length vars) lookahead) IsWordRule rs is word))
