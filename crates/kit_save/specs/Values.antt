-- The JSON value of a federation, as a file of version 2.
use Rattle.std.specs.Prelude.{ℕ, zero, suc, ◌^◌, List, [], ◌∷◌, map, ◌==◌, if◌then◌else◌, Option, Some, None, option_map, is_some, bit_and, codes}
use Rattle.serde_json.specs.Data.{Data, boolean, number, unsigned, string, array, object, Members, no_members, member}
use Rattle.serde_json.specs.View.{items_of}
use Rattle.kit_rules.specs.declared.table.Wish.{Wish}
use Rattle.kit_rules.specs.declared.table.Wish.TheVariants as wish
use Rattle.kit_rules.specs.declared.table.Operand.{Operand}
use Rattle.kit_rules.specs.declared.table.Operand.TheVariants as operand
use Rattle.kit_rules.specs.declared.table.Compare.{Compare}
use Rattle.kit_rules.specs.declared.table.Compare.TheVariants as compare
use Rattle.kit_rules.specs.declared.table.Cond.{Cond}
use Rattle.kit_rules.specs.declared.table.Trigger.{Trigger}
use Rattle.kit_rules.specs.declared.table.Trigger.TheVariants as trigger
use Rattle.kit_rules.specs.declared.table.Action.{Action}
use Rattle.kit_rules.specs.declared.table.Action.TheVariants as action
use Rattle.kit_rules.specs.declared.table.Rule.{Rule}
use Rattle.kit_rules.specs.declared.table.Var.{Var}
use Rattle.kit_rules.specs.declared.table.Group.{Group}
use Rattle.kit_rules.specs.declared.table.Federate.{Federate}
use Rattle.kit_rules.specs.Parts.{Parts}
use Rattle.kit_file.specs.Names.{var_name, group_name}

-- the name of the member at a place of a list
abbrev pub name_at : {X : Type 0} → (X → List ℕ) → List X → ℕ → List ℕ
name_at name_of [] i = []
name_at name_of (x ∷ xs) zero = name_of x
name_at name_of (x ∷ xs) (suc i) = name_at name_of xs i

-- a whole number
abbrev pub count : ℕ → Data
count n = number (unsigned n)

-- a list, member by member
abbrev pub list_value : {X : Type 0} → (X → Data) → List X → Data
list_value value xs = array (items_of (map value xs))

-- a key before these, written where there is a value for it
abbrev pub written_if : List ℕ → Option Data → Members → Members
written_if key None rest = rest
written_if key (Some d) rest = member key d rest

-- an operand: a number, or a text
abbrev pub operand_value : List Var → Operand → Data
operand_value vars (operand.Num n) = count n
operand_value vars (operand.Var v) = string (name_at var_name vars v)
operand_value vars operand.Now = string (codes "$now")
operand_value vars operand.Value = string (codes "$value")

-- a comparison, by its name
abbrev pub comparison_name : Compare → List ℕ
comparison_name compare.Lt = codes "lt"
comparison_name compare.Le = codes "le"
comparison_name compare.Eq = codes "eq"
comparison_name compare.Ne = codes "ne"
comparison_name compare.Ge = codes "ge"
comparison_name compare.Gt = codes "gt"

-- a condition
abbrev pub cond_value : List Var → Cond → Data
cond_value vars c =
    object (member (codes "is") (string (comparison_name c.test))
    (member (codes "left") (operand_value vars c.left)
    (member (codes "right") (operand_value vars c.right) no_members)))

-- when a rule runs
abbrev pub trigger_value : List Group → Trigger → Data
trigger_value groups trigger.Start = string (codes "start")
trigger_value groups trigger.Grant = string (codes "grant")
trigger_value groups (trigger.Got group) = object (member (codes "got") (string (name_at group_name groups group)) no_members)

-- an action
abbrev pub action_value : List Group → List Var → Action → Data
action_value groups vars (action.Set v to) =
    object (member (codes "set") (string (name_at var_name vars v))
    (member (codes "to") (operand_value vars to) no_members))
action_value groups vars (action.Add v by) =
    object (member (codes "add") (string (name_at var_name vars v))
    (member (codes "by") (operand_value vars by) no_members))
action_value groups vars (action.Sub v by) =
    object (member (codes "by") (operand_value vars by)
    (member (codes "sub") (string (name_at var_name vars v)) no_members))
action_value groups vars (action.Send group delay value keep) =
    object (member (codes "delay") (count delay)
    (written_if (codes "keep") (option_map (λ v. string (name_at var_name vars v)) keep)
    (member (codes "send") (string (name_at group_name groups group))
    (member (codes "value") (operand_value vars value) no_members))))
action_value groups vars (action.Retract v) = object (member (codes "retract") (string (name_at var_name vars v)) no_members)
action_value groups vars (action.Tar step) = object (member (codes "tar") (count step) no_members)
action_value groups vars (action.Ner step) = object (member (codes "ner") (count step) no_members)

-- a rule
abbrev pub rule_value : List Group → List Var → Rule → Data
rule_value groups vars r =
    object (member (codes "do") (list_value (action_value groups vars) r.actions)
    (member (codes "if") (list_value (cond_value vars) r.conds)
    (member (codes "on") (trigger_value groups r.on) no_members)))

-- a variable
abbrev pub var_value : Var → Data
var_value v = object (member (codes "name") (string v.name) (member (codes "value") (count v.value) no_members))

-- a wish
abbrev pub wish_value : Wish → Data
wish_value (wish.Tar step) = object (member (codes "tar") (count step) no_members)
wish_value (wish.Ner step) = object (member (codes "ner") (count step) no_members)

-- a federate: regulating where it has a lookahead
abbrev pub federate_value : List Group → Federate → Data
federate_value groups f =
    object (member (codes "advance") (wish_value f.advance)
    (written_if (codes "lookahead") (option_map count f.lookahead)
    (member (codes "name") (string f.name)
    (member (codes "regulating") (boolean (is_some f.lookahead))
    (member (codes "rules") (list_value (rule_value groups f.vars) f.rules)
    (member (codes "vars") (list_value var_value f.vars) no_members))))))

-- the names of those federates whose bits a mask has, where the first has bit j
abbrev pub member_names : ℕ → ℕ → List Federate → List (List ℕ)
member_names mask j [] = []
member_names mask j (f ∷ fs) = if bit_and mask (2 ^ j) == 0 then member_names mask (suc j) fs else f.name ∷ member_names mask (suc j) fs

-- a group, with its members by name
abbrev pub group_value : List Federate → Group → Data
group_value federates g =
    object (member (codes "members") (list_value string (member_names g.members 0 federates))
    (member (codes "name") (string g.name) no_members))

-- the whole file
abbrev pub federation_value : Parts → Data
federation_value p =
    object (member (codes "buffers") (count p.buffers)
    (member (codes "end") (count p.end)
    (member (codes "federates") (list_value (federate_value p.groups) p.federates)
    (member (codes "groups") (list_value (group_value p.federates) p.groups)
    (member (codes "version") (count 2) no_members)))))
