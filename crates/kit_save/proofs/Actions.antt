-- Actions come back.
use Rattle.std.proofs.Common.{◌≡◌, ℕ, ◌<◌, ◌≤◌, List, length, map, Option, Some, None, Ok, codes, refl, ap, ◌∙◌}
use Rattle.std.specs.Prelude.{option_map, IfSome}
use Rattle.serde_json.specs.Data.{Data, string}
use Rattle.serde_json.specs.Find.{get}
use Rattle.kit_rules.specs.declared.table.Var.{Var}
use Rattle.kit_rules.specs.declared.table.Group.{Group}
use Rattle.kit_rules.specs.declared.table.Operand.{Operand}
use Rattle.kit_rules.specs.declared.table.Action.{Action}
use Rattle.kit_rules.specs.declared.table.Action.TheVariants as action
use Rattle.kit_rules.specs.Limits.{most_time}
use Rattle.kit_rules.specs.Federation.{IsOperand, IsAction, AreVars}
use Rattle.kit_walk.specs.Places.{object}
use Rattle.kit_file.specs.Names.{var_name, group_name}
use Rattle.kit_file.specs.Actions.{keep_of, send_of, set_of, add_of, sub_of, retract_of, last_kinds_of, action_of}
use Rattle.kit_file.proofs.Ranges.{numbers_are_taken}
use Rattle.kit_save.specs.Values.{name_at, count, operand_value, action_value}
use Rattle.kit_save.specs.Widths.{IsWordOperand, IsWordAction}
use Rattle.kit_save.proofs.Names.{Differ, referred, name_referred}
use Rattle.kit_save.proofs.Operands.{operand_taken}

-- a key that names a variable
abbrev NamesVar : List Var → List ℕ → Data → ℕ → Type 0
NamesVar vars key d v = get key d ≡ Some (string (name_at var_name vars v))

-- a key that has an operand
abbrev HasOperand : List Var → List ℕ → Data → Operand → Type 0
HasOperand vars key d o = get key d ≡ Some (operand_value vars o)

set_taken : (vars : List Var) (d : Data) (v : ℕ) (o : Operand) → NamesVar vars (codes "set") d v → HasOperand vars (codes "to") d o → AreVars vars → v < length vars → IsOperand (length vars) o → IsWordOperand o → set_of vars d ≡ Ok (action.Set v o)
unfolding set_of
set_taken vars d v o e f h lt is word = rw (referred var_name vars (codes "set") d v e h.differ lt, operand_taken (codes "to") vars d o f h is word) refl

add_taken : (vars : List Var) (d : Data) (v : ℕ) (o : Operand) → NamesVar vars (codes "add") d v → HasOperand vars (codes "by") d o → AreVars vars → v < length vars → IsOperand (length vars) o → IsWordOperand o → add_of vars d ≡ Ok (action.Add v o)
unfolding add_of
add_taken vars d v o e f h lt is word = rw (referred var_name vars (codes "add") d v e h.differ lt, operand_taken (codes "by") vars d o f h is word) refl

sub_taken : (vars : List Var) (d : Data) (v : ℕ) (o : Operand) → NamesVar vars (codes "sub") d v → HasOperand vars (codes "by") d o → AreVars vars → v < length vars → IsOperand (length vars) o → IsWordOperand o → sub_of vars d ≡ Ok (action.Sub v o)
unfolding sub_of
sub_taken vars d v o e f h lt is word = rw (referred var_name vars (codes "sub") d v e h.differ lt, operand_taken (codes "by") vars d o f h is word) refl

retract_taken : (vars : List Var) (l : ℕ) (d : Data) (v : ℕ) → NamesVar vars (codes "retract") d v → AreVars vars → v < length vars → retract_of vars (Some l) d ≡ Ok (action.Retract v)
unfolding retract_of
retract_taken vars l d v e h lt = rw (referred var_name vars (codes "retract") d v e h.differ lt) refl

-- the variable that keeps a number, where one does
keep_taken : (vars : List Var) (d : Data) (keep : Option ℕ) → get (codes "keep") d ≡ option_map (λ v. string (name_at var_name vars v)) keep → AreVars vars → IfSome keep (λ v. v < length vars) → keep_of vars d (get (codes "keep") d) ≡ Ok keep
keep_taken vars d None e h is = ap (keep_of vars d) e
keep_taken vars d (Some v) e h is = ap (keep_of vars d) e ∙ rw (referred var_name vars (codes "keep") d v e h.differ is) refl

send_taken : (groups : List Group) (vars : List Var) (l : ℕ) (d : Data) (g delay : ℕ) (o : Operand) (keep : Option ℕ)
    → get (codes "send") d ≡ Some (string (name_at group_name groups g)) → get (codes "delay") d ≡ Some (count delay) → HasOperand vars (codes "value") d o
    → get (codes "keep") d ≡ option_map (λ v. string (name_at var_name vars v)) keep
    → Differ group_name groups → AreVars vars → g < length groups → l ≤ delay → delay ≤ most_time → IsOperand (length vars) o → IsWordOperand o → IfSome keep (λ v. v < length vars)
    → send_of (map group_name groups) vars (Some l) d ≡ Ok (action.Send g delay o keep)
unfolding send_of
send_taken groups vars l d g delay o keep e f v k differ h lt low high is word kept =
    rw (
      name_referred group_name groups (codes "send") d g e differ lt,
      numbers_are_taken.delay l d delay (rw f refl) (low, high),
      operand_taken (codes "value") vars d o v h is word,
      keep_taken vars d keep k h kept,
    ) refl

-- an action
pub action_taken : (groups : List Group) (vars : List Var) (lookahead : Option ℕ) (a : Action) → Differ group_name groups → AreVars vars → IsAction (length groups) (length vars) lookahead a → IsWordAction a
    → action_of (map group_name groups) vars lookahead (action_value groups vars a) ≡ Ok a
unfolding action_of last_kinds_of object
action_taken groups vars lookahead (action.Set v o) differ h is word = set_taken vars (action_value groups vars (action.Set v o)) v o refl refl h is.0 is.1 word
action_taken groups vars lookahead (action.Add v o) differ h is word = add_taken vars (action_value groups vars (action.Add v o)) v o refl refl h is.0 is.1 word
action_taken groups vars lookahead (action.Sub v o) differ h is word = sub_taken vars (action_value groups vars (action.Sub v o)) v o refl refl h is.0 is.1 word
action_taken groups vars None (action.Send g delay o keep) differ h is word = absurd is.1
action_taken groups vars (Some l) (action.Send g delay o None) differ h is word =
    send_taken groups vars l (action_value groups vars (action.Send g delay o None)) g delay o None refl refl refl refl differ h is.0 is.1 is.2 is.3 word is.4
action_taken groups vars (Some l) (action.Send g delay o (Some v)) differ h is word =
    send_taken groups vars l (action_value groups vars (action.Send g delay o (Some v))) g delay o (Some v) refl refl refl refl differ h is.0 is.1 is.2 is.3 word is.4
action_taken groups vars None (action.Retract v) differ h is word = absurd (cc)
action_taken groups vars (Some l) (action.Retract v) differ h is word = retract_taken vars l (action_value groups vars (action.Retract v)) v refl h is.1
action_taken groups vars lookahead (action.Tar step) differ h is word = numbers_are_taken.tar (action_value groups vars (action.Tar step)) step refl is
action_taken groups vars lookahead (action.Ner step) differ h is word = numbers_are_taken.ner (action_value groups vars (action.Ner step)) step refl is
