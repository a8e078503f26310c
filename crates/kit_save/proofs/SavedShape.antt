-- The value that is written has no float, and nests a few levels.
use Rattle.std.proofs.Common.{◌≡◌, ℕ, suc, ◌≤◌, Bool, false, List, [], ◌∷◌, map, Option, Some, None, refl, arith}
use Rattle.std.specs.Prelude.{option_map}
use Rattle.std.specs.List.{zip}
use Rattle.serde_json.specs.Data.{Data, boolean, string, object, Items, Members, no_members, member, depth, items_depth, members_depth}
use Rattle.serde_json.specs.View.{items_of}
use Rattle.serde_json.specs.Read.{max_depth}
use Rattle.serde_json.specs.Written.{has_float, items_have_float, members_have_float}
use Rattle.kit_rules.specs.declared.table.Wish.{Wish}
use Rattle.kit_rules.specs.declared.table.Wish.TheVariants as wish
use Rattle.kit_rules.specs.declared.table.Request.{Request}
use Rattle.kit_rules.specs.declared.table.Request.TheVariants as request
use Rattle.kit_rules.specs.declared.table.Operand.{Operand}
use Rattle.kit_rules.specs.declared.table.Operand.TheVariants as operand
use Rattle.kit_rules.specs.declared.table.Cond.{Cond}
use Rattle.kit_rules.specs.declared.table.Trigger.{Trigger}
use Rattle.kit_rules.specs.declared.table.Trigger.TheVariants as trigger
use Rattle.kit_rules.specs.declared.table.Action.{Action}
use Rattle.kit_rules.specs.declared.table.Action.TheVariants as action
use Rattle.kit_rules.specs.declared.table.Rule.{Rule}
use Rattle.kit_rules.specs.declared.table.Var.{Var}
use Rattle.kit_rules.specs.declared.table.Group.{Group}
use Rattle.kit_rules.specs.declared.table.Federate.{Federate}
use Rattle.kit_rules.specs.Parts.{Parts}
use Rattle.kit_file.specs.Names.{var_name}
use Rattle.kit_cut.specs.declared.cut.Standing.{Standing}
use Rattle.kit_cut.specs.declared.cut.Cut.{Cut}
use Rattle.kit_save.specs.Values.{count, list_value, written_if, name_at, operand_value, cond_value, trigger_value, action_value, rule_value, var_value, wish_value, federate_value, member_names, group_value}
use Rattle.kit_save.specs.CutValues.{numbers_value, own_row, message_row, own_value, message_value, request_value, standing_value, paired_value, cut_value, saved_value}

-- no float, and so many levels at most
record IsFlat (n : ℕ) (d : Data) : Type 0 where
  whole : has_float d ≡ false
  few : depth d ≤ n

-- so of each member of an object
record AreFlat (n : ℕ) (ms : Members) : Type 0 where
  whole : members_have_float ms ≡ false
  few : members_depth ms ≤ n

-- and of each item of a list
record AreFlatItems (n : ℕ) (ds : Items) : Type 0 where
  whole : items_have_float ds ≡ false
  few : items_depth ds ≤ n

-- ---- what values are made of

number_flat : (n k : ℕ) → IsFlat n (count k)
number_flat n k = record { whole = refl; few = omega arith }

text_flat : (n : ℕ) (s : List ℕ) → IsFlat n (string s)
text_flat n s = record { whole = refl; few = omega arith }

boolean_flat : (n : ℕ) (b : Bool) → IsFlat n (boolean b)
boolean_flat n b = record { whole = refl; few = omega arith }

none_flat : (n : ℕ) → AreFlat n no_members
none_flat n = record { whole = refl; few = omega arith }

more_flat : (n : ℕ) (key : List ℕ) (d : Data) (ms : Members) → IsFlat n d → AreFlat n ms → AreFlat n (member key d ms)
more_flat n key d ms first rest = record { whole = rw (first.whole, rest.whole) refl; few = omega (arith, first.few, rest.few) }

if_flat : {X : Type 0} (n : ℕ) (key : List ℕ) (value : X → Data) (o : Option X) (ms : Members) → ((x : X) → IsFlat n (value x)) → AreFlat n ms → AreFlat n (written_if key (option_map value o) ms)
if_flat n key value None ms each rest = rest
if_flat n key value (Some x) ms each rest = more_flat n key (value x) ms (each x) rest

object_flat : (n : ℕ) (ms : Members) → AreFlat n ms → IsFlat (suc n) (object ms)
object_flat n ms are = record { whole = are.whole; few = omega (arith, are.few) }

items_flat : {X : Type 0} (n : ℕ) (value : X → Data) (xs : List X) → ((x : X) → IsFlat n (value x)) → AreFlatItems n (items_of (map value xs))
items_flat n value [] each = record { whole = refl; few = omega arith }
items_flat n value (x ∷ xs) each =
    let first : IsFlat n (value x) = each x in
    let rest : AreFlatItems n (items_of (map value xs)) = items_flat n value xs each in
    record { whole = rw (first.whole, rest.whole) refl; few = omega (arith, first.few, rest.few) }

list_flat : {X : Type 0} (n : ℕ) (value : X → Data) (xs : List X) → ((x : X) → IsFlat n (value x)) → IsFlat (suc n) (list_value value xs)
list_flat n value xs each =
    let are : AreFlatItems n (items_of (map value xs)) = items_flat n value xs each in
    record { whole = are.whole; few = omega (arith, are.few) }

-- what has few levels has no more than many
deeper : (n m : ℕ) (d : Data) → n ≤ m → IsFlat n d → IsFlat m d
deeper n m d le is = record { whole = is.whole; few = omega (arith, is.few) }

-- ---- a federation

operand_flat : (n : ℕ) (vars : List Var) (o : Operand) → IsFlat n (operand_value vars o)
operand_flat n vars (operand.Num k) = number_flat n k
operand_flat n vars (operand.Var v) = text_flat n _
operand_flat n vars operand.Now = text_flat n _
operand_flat n vars operand.Value = text_flat n _

cond_flat : (n : ℕ) (vars : List Var) (c : Cond) → IsFlat (suc n) (cond_value vars c)
cond_flat n vars c =
    object_flat n _ (more_flat n _ _ _ (text_flat n _) (more_flat n _ _ _ (operand_flat n vars c.left) (more_flat n _ _ _ (operand_flat n vars c.right) (none_flat n))))

trigger_flat : (n : ℕ) (groups : List Group) (t : Trigger) → IsFlat (suc n) (trigger_value groups t)
trigger_flat n groups trigger.Start = text_flat (suc n) _
trigger_flat n groups trigger.Grant = text_flat (suc n) _
trigger_flat n groups (trigger.Got group) = object_flat n _ (more_flat n _ _ _ (text_flat n _) (none_flat n))

action_flat : (n : ℕ) (groups : List Group) (vars : List Var) (a : Action) → IsFlat (suc n) (action_value groups vars a)
action_flat n groups vars (action.Set v to) = object_flat n _ (more_flat n _ _ _ (text_flat n _) (more_flat n _ _ _ (operand_flat n vars to) (none_flat n)))
action_flat n groups vars (action.Add v by) = object_flat n _ (more_flat n _ _ _ (text_flat n _) (more_flat n _ _ _ (operand_flat n vars by) (none_flat n)))
action_flat n groups vars (action.Sub v by) = object_flat n _ (more_flat n _ _ _ (operand_flat n vars by) (more_flat n _ _ _ (text_flat n _) (none_flat n)))
action_flat n groups vars (action.Send group delay value keep) =
    object_flat n _ (more_flat n _ _ _ (number_flat n delay)
    (if_flat n _ (λ v. string (name_at var_name vars v)) keep _ (λ v. text_flat n _)
    (more_flat n _ _ _ (text_flat n _)
    (more_flat n _ _ _ (operand_flat n vars value) (none_flat n)))))
action_flat n groups vars (action.Retract v) = object_flat n _ (more_flat n _ _ _ (text_flat n _) (none_flat n))
action_flat n groups vars (action.Tar step) = object_flat n _ (more_flat n _ _ _ (number_flat n step) (none_flat n))
action_flat n groups vars (action.Ner step) = object_flat n _ (more_flat n _ _ _ (number_flat n step) (none_flat n))

rule_flat : (groups : List Group) (vars : List Var) (r : Rule) → IsFlat 3 (rule_value groups vars r)
rule_flat groups vars r =
    object_flat 2 _ (more_flat 2 _ _ _ (list_flat 1 (action_value groups vars) r.actions (action_flat 0 groups vars))
    (more_flat 2 _ _ _ (list_flat 1 (cond_value vars) r.conds (cond_flat 0 vars))
    (more_flat 2 _ _ _ (trigger_flat 1 groups r.on) (none_flat 2))))

var_flat : (n : ℕ) (v : Var) → IsFlat (suc n) (var_value v)
var_flat n v = object_flat n _ (more_flat n _ _ _ (text_flat n _) (more_flat n _ _ _ (number_flat n v.value) (none_flat n)))

wish_flat : (n : ℕ) (w : Wish) → IsFlat (suc n) (wish_value w)
wish_flat n (wish.Tar step) = object_flat n _ (more_flat n _ _ _ (number_flat n step) (none_flat n))
wish_flat n (wish.Ner step) = object_flat n _ (more_flat n _ _ _ (number_flat n step) (none_flat n))

federate_flat : (groups : List Group) (f : Federate) → IsFlat 5 (federate_value groups f)
federate_flat groups f =
    object_flat 4 _ (more_flat 4 _ _ _ (wish_flat 3 f.advance)
    (if_flat 4 _ count f.lookahead _ (number_flat 4)
    (more_flat 4 _ _ _ (text_flat 4 _)
    (more_flat 4 _ _ _ (boolean_flat 4 _)
    (more_flat 4 _ _ _ (list_flat 3 (rule_value groups f.vars) f.rules (rule_flat groups f.vars))
    (more_flat 4 _ _ _ (list_flat 3 var_value f.vars (var_flat 2)) (none_flat 4)))))))

group_flat : (federates : List Federate) (g : Group) → IsFlat 2 (group_value federates g)
group_flat federates g =
    object_flat 1 _ (more_flat 1 _ _ _ (list_flat 0 string (member_names g.members 0 federates) (text_flat 0))
    (more_flat 1 _ _ _ (text_flat 1 _) (none_flat 1)))

-- ---- a cut

numbers_flat : (n : ℕ) (ns : List ℕ) → IsFlat (suc n) (numbers_value ns)
numbers_flat n ns = list_flat n count ns (number_flat n)

request_flat : (n : ℕ) (r : Request) → IsFlat (suc n) (request_value r)
request_flat n (request.Tar time) = object_flat n _ (more_flat n _ _ _ (number_flat n time) (none_flat n))
request_flat n (request.Ner time) = object_flat n _ (more_flat n _ _ _ (number_flat n time) (none_flat n))

standing_flat : (f : Federate) (s : Standing) → IsFlat 3 (standing_value f s)
standing_flat f s =
    object_flat 2 _ (more_flat 2 _ _ _ (number_flat 2 s.now)
    (more_flat 2 _ _ _ (list_flat 1 own_value s.own (λ o. numbers_flat 0 (own_row o)))
    (more_flat 2 _ _ _ (list_flat 1 message_value s.pending (λ m. numbers_flat 0 (message_row m)))
    (if_flat 2 _ request_value s.request _ (request_flat 1)
    (more_flat 2 _ _ _ (numbers_flat 1 _)
    (more_flat 2 _ _ _ (wish_flat 1 s.wish) (none_flat 2)))))))

cut_flat : (p : Parts) (c : Cut) → IsFlat 5 (cut_value p c)
cut_flat p c =
    object_flat 4 _ (more_flat 4 _ _ _ (number_flat 4 c.at)
    (more_flat 4 _ _ _ (list_flat 3 paired_value (zip p.federates c.federates) (λ x. standing_flat x.0 x.1))
    (more_flat 4 _ _ _ (numbers_flat 3 c.next) (none_flat 4))))

-- the whole file
saved_flat : (p : Parts) (c : Cut) → IsFlat 7 (saved_value p c)
saved_flat p c =
    object_flat 6 _ (more_flat 6 _ _ _ (number_flat 6 p.buffers)
    (more_flat 6 _ _ _ (deeper 5 6 (cut_value p c) (omega arith) (cut_flat p c))
    (more_flat 6 _ _ _ (number_flat 6 p.end)
    (more_flat 6 _ _ _ (list_flat 5 (federate_value p.groups) p.federates (federate_flat p.groups))
    (more_flat 6 _ _ _ (list_flat 5 (group_value p.federates) p.groups (λ g. deeper 2 5 _ (omega arith) (group_flat p.federates g)))
    (more_flat 6 _ _ _ (number_flat 6 2) (none_flat 6)))))))

-- it has no float
pub saved_whole : (p : Parts) (c : Cut) → has_float (saved_value p c) ≡ false
saved_whole p c = (saved_flat p c).whole

-- and is not too deep to be read
pub saved_shallow : (p : Parts) (c : Cut) → depth (saved_value p c) ≤ max_depth
saved_shallow p c = omega (arith, (saved_flat p c).few)
