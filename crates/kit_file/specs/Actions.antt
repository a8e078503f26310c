-- The actions of a rule.
use Rattle.std.specs.Prelude.{ℕ, List, [], ◌∷◌, ◌++◌, nat_le, if◌then◌else◌, Option, Some, None, Result, Ok, codes}
use Rattle.serde_json.specs.Data.{Data}
use Rattle.serde_json.specs.Find.{get}
use Rattle.kit_rules.specs.Limits.{most_actions, most_time}
use Rattle.kit_rules.specs.declared.table.Var.{Var}
use Rattle.kit_rules.specs.declared.table.Action.{Action}
use Rattle.kit_rules.specs.declared.table.Action.TheVariants as action
use Rattle.kit_walk.specs.declared.fault.FaultKind.TheVariants as kind
use Rattle.kit_walk.specs.declared.fault.Fault.{Fault}
use Rattle.kit_walk.specs.Paths.{key_path, item_path}
use Rattle.kit_walk.specs.Reading.{◌>>=◌, fault_at, within, guard, each}
use Rattle.kit_walk.specs.Places.{object, has, number, list}
use Rattle.kit_file.specs.Names.{itself, var_name, reference}
use Rattle.kit_file.specs.Operands.{operand_of}
use Rattle.kit_file.specs.Lookaheads.{needed_lookahead}

-- the variable that keeps the number of a message, where one does
abbrev pub keep_of : List Var → Data → Option Data → Result (Option ℕ) Fault
keep_of vars d None = Ok None
keep_of vars d (Some v) = reference var_name vars (codes "keep") d >>= λ k. Ok (Some k)

-- the key delay of a send: no less than the lookahead
unfoldable pub delay_of : ℕ → Data → Result ℕ Fault
delay_of least d = do
  delay ← number (codes "delay") 0 most_time d
  u ← guard (nat_le least delay) kind.SendTooSoon (key_path (codes "delay"))
  Ok delay

-- a message to one of these targets, groups or regions by their names, sent no sooner than the lookahead allows, of which there has to be one
unfoldable pub send_of : List (List ℕ) → List Var → Option ℕ → Data → Result Action Fault
send_of targets vars lookahead d = do
  least ← needed_lookahead (codes "send") lookahead
  g ← reference itself targets (codes "send") d
  delay ← delay_of least d
  value ← operand_of (codes "value") vars d
  keep ← keep_of vars d (get (codes "keep") d)
  Ok (action.Send g delay value keep)

-- a variable set to an operand
unfoldable pub set_of : List Var → Data → Result Action Fault
set_of vars d = do
  v ← reference var_name vars (codes "set") d
  to ← operand_of (codes "to") vars d
  Ok (action.Set v to)

-- an operand added to a variable
unfoldable pub add_of : List Var → Data → Result Action Fault
add_of vars d = do
  v ← reference var_name vars (codes "add") d
  by ← operand_of (codes "by") vars d
  Ok (action.Add v by)

-- an operand taken from a variable
unfoldable pub sub_of : List Var → Data → Result Action Fault
sub_of vars d = do
  v ← reference var_name vars (codes "sub") d
  by ← operand_of (codes "by") vars d
  Ok (action.Sub v by)

-- the message taken back whose number a variable holds, where the federate may send
unfoldable pub retract_of : List Var → Option ℕ → Data → Result Action Fault
retract_of vars lookahead d = do
  least ← needed_lookahead (codes "retract") lookahead
  v ← reference var_name vars (codes "retract") d
  Ok (action.Retract v)

-- a time advance request from now on, of this step
unfoldable pub tar_of : Data → Result Action Fault
tar_of d = do
  n ← number (codes "tar") 1 most_time d
  Ok (action.Tar n)

-- a next event request from now on, of this step
unfoldable pub ner_of : Data → Result Action Fault
ner_of d = do
  n ← number (codes "ner") 1 most_time d
  Ok (action.Ner n)

-- an action of the last three kinds, or of none
unfoldable pub last_kinds_of : List Var → Option ℕ → Data → Result Action Fault
last_kinds_of vars lookahead d = if has (codes "retract") d then retract_of vars lookahead d else (if has (codes "tar") d then tar_of d else (if has (codes "ner") d then ner_of d else fault_at kind.Missing []))

-- an action: its kind is the first of the seven keys that it has
unfoldable pub action_of : List (List ℕ) → List Var → Option ℕ → Data → Result Action Fault
action_of targets vars lookahead d = do
  u ← object d
  if has (codes "set") d then set_of vars d else (if has (codes "add") d then add_of vars d else (if has (codes "sub") d then sub_of vars d else (if has (codes "send") d then send_of targets vars lookahead d else last_kinds_of vars lookahead d)))

-- one more action, the i-th of the list do
unfoldable pub action_step : List (List ℕ) → List Var → Option ℕ → ℕ → List Action → Data → Result (List Action) Fault
action_step targets vars lookahead i done d = within (item_path (codes "do") i) (action_of targets vars lookahead d) >>= λ a. Ok (done ++ a ∷ [])

-- the members of the list do
abbrev pub action_list_of : Data → Result (List Data) Fault
action_list_of d = list (codes "do") 0 most_actions d

-- the list do
unfoldable pub actions_of : List (List ℕ) → List Var → Option ℕ → Data → Result (List Action) Fault
actions_of targets vars lookahead d = do
  ds ← action_list_of d
  each (action_step targets vars lookahead) 0 [] ds
