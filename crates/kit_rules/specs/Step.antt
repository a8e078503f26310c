-- The rule step: what the rules of a federate do to its state.
use Rattle.std.specs.Prelude.{◌≡◌, ℕ, ◌<◌, ◌≤◌, ◌+◌, ◌-◌, ◌%◌, ◌^◌, ◌==◌, nat_lt, nat_le, Bool, true, false, ◌&&◌, not, if◌then◌else◌, List, [], ◌∷◌, ◌++◌, length, slice_index, slice_index_or, slice_set, map, replicate, Option, Some, None, find}
use Rattle.std.specs.List.{list_any, list_all, All}
use Rattle.kit_rules.specs.Limits.{most_vars}
use Rattle.kit_rules.specs.Federation.{IsCond, IsAction}
use Rattle.std.specs.Option.{option_to_list, option_map}
use Rattle.kit_base.specs.declared.message.Kind.{Kind}
use Rattle.kit_base.specs.declared.message.Kind.TheVariants.{Event, Retraction}
use Rattle.kit_base.specs.declared.message.Message.{Message}
use Rattle.kit_rules.specs.declared.table.Wish.{Wish}
use Rattle.kit_rules.specs.declared.table.Wish.TheVariants as wish
use Rattle.kit_rules.specs.declared.table.Operand.{Operand}
use Rattle.kit_rules.specs.declared.table.Operand.TheVariants as operand
use Rattle.kit_rules.specs.declared.table.Compare.{Compare}
use Rattle.kit_rules.specs.declared.table.Compare.TheVariants.{Lt, Le, Eq, Ne, Ge, Gt}
use Rattle.kit_rules.specs.declared.table.Cond.{Cond}
use Rattle.kit_rules.specs.declared.table.Trigger.{Trigger}
use Rattle.kit_rules.specs.declared.table.Trigger.TheVariants as trigger
use Rattle.kit_rules.specs.declared.table.Action.{Action}
use Rattle.kit_rules.specs.declared.table.Action.TheVariants as action
use Rattle.kit_rules.specs.declared.table.Rule.{Rule}
use Rattle.kit_rules.specs.declared.table.Var.{Var}
use Rattle.kit_rules.specs.declared.table.Federate.{Federate}
use Rattle.kit_rules.specs.Parts.{Parts, federate_at, effective_lookahead}
use Rattle.kit_rules.specs.declared.scene.Scene.{Scene}
use Rattle.kit_rules.specs.declared.scene.State.{State}

-- the number that an operand stands for
abbrev pub value_of : Scene → List ℕ → Operand → ℕ
value_of scene vars (operand.Num n) = n
value_of scene vars (operand.Var v) = slice_index vars v
value_of scene vars operand.Now = scene.time
value_of scene vars operand.Value = scene.value

-- whether two numbers compare so
abbrev pub compares : Compare → ℕ → ℕ → Bool
compares Lt a b = nat_lt a b
compares Le a b = nat_le a b
compares Eq a b = a == b
compares Ne a b = not (a == b)
compares Ge a b = nat_le b a
compares Gt a b = nat_lt b a

-- whether a condition holds in a scene, of these variables
abbrev pub condition_holds : Scene → List ℕ → Cond → Bool
condition_holds scene vars c = compares c.test (value_of scene vars c.left) (value_of scene vars c.right)

-- whether all of them do
abbrev pub conditions_hold : Scene → List ℕ → List Cond → Bool
conditions_hold scene vars conds = list_all (condition_holds scene vars) conds

-- whether a message brings a value
abbrev pub is_event : Kind → Bool
is_event Event = true
is_event Retraction = false

-- whether the message is a Retraction that names this number
abbrev pub takes_back : ℕ → Message → Bool
takes_back number m = not (is_event m.kind) && (m.value == number)

-- whether the message may be taken back by its number: it is an Event of that number, in time, and not taken back
abbrev pub is_target : Scene → List Message → ℕ → Message → Bool
is_target scene sends number m = is_event m.kind && (m.number == number) && nat_le m.time scene.end && nat_le (scene.time + scene.lookahead) m.time && not (list_any (takes_back number) sends)

-- the Retraction of a message
abbrev pub retraction_of : Scene → State → Message → Message
retraction_of scene s m = record { time = m.time; sender = scene.sender; number = s.next; kind = Retraction; group = m.group; value = m.number }

-- the message that an action makes
abbrev pub message_of : Scene → State → Action → Option Message
message_of scene s (action.Send group delay what _) = Some (record { time = scene.time + delay; sender = scene.sender; number = s.next; kind = Event; group = group; value = value_of scene s.vars what })
message_of scene s (action.Retract v) = option_map (retraction_of scene s) (find (is_target scene s.sends (slice_index s.vars v)) s.sends)
message_of scene s _ = None

-- the variables with a number kept in one of them, if any
abbrev pub kept_in : List ℕ → Option ℕ → ℕ → List ℕ
kept_in vars None number = vars
kept_in vars (Some v) number = slice_set vars v number

-- the variables after an action
abbrev pub vars_after : Scene → State → Action → List ℕ
vars_after scene s (action.Set v to) = slice_set s.vars v (value_of scene s.vars to)
vars_after scene s (action.Add v by) = slice_set s.vars v ((slice_index s.vars v + value_of scene s.vars by) % 2 ^ 32)
vars_after scene s (action.Sub v by) = slice_set s.vars v ((slice_index s.vars v + 2 ^ 32 - value_of scene s.vars by) % 2 ^ 32)
vars_after scene s (action.Send _ _ _ keep) = kept_in s.vars keep s.next
vars_after scene s _ = s.vars

-- the wish after an action
abbrev pub wish_after : Wish → Action → Wish
wish_after w (action.Tar step) = wish.Tar step
wish_after w (action.Ner step) = wish.Ner step
wish_after w _ = w

-- the state after an action
abbrev pub after_action : Scene → State → Action → State
after_action scene s a =
    let made = option_to_list (message_of scene s a) in
    record { vars = vars_after scene s a; wish = wish_after s.wish a; next = s.next + length made; sends = s.sends ++ made }

-- the state after actions in order
abbrev pub after_actions : Scene → State → List Action → State
after_actions scene s [] = s
after_actions scene s (a ∷ as') = after_actions scene (after_action scene s a) as'

-- whether two triggers are the same
abbrev pub same_trigger : Trigger → Trigger → Bool
same_trigger trigger.Start trigger.Start = true
same_trigger trigger.Grant trigger.Grant = true
same_trigger (trigger.Got a) (trigger.Got b) = a == b
same_trigger _ _ = false

-- the conditions are read when the rule's turn comes
abbrev pub after_rule : Scene → Trigger → State → Rule → State
after_rule scene on s r = if same_trigger r.on on && conditions_hold scene s.vars r.conds then after_actions scene s r.actions else s

-- the rules in the order of the table
abbrev pub after_rules : Scene → Trigger → State → List Rule → State
after_rules scene on s [] = s
after_rules scene on s (r ∷ rs) = after_rules scene on (after_rule scene on s r) rs

-- what stands for a message past the last
abbrev pub no_message : Message
no_message = record { time = 0; sender = 0; number = 0; kind = Event; group = 0; value = 0 }

-- the next number is one above the number of sends, no send has number 16,385, and the send at place k has number k + 1
abbrev pub IsCounted : State → Type 0
IsCounted s = (s.next ≡ length s.sends + 1) × (s.next ≤ 16385) × ((k : ℕ) → k < length s.sends → (slice_index_or s.sends k no_message).number ≡ k + 1)

-- the mark of each number that a Retraction among the sends names is that Retraction's own number
abbrev pub AreMarked : List Message → List ℕ → Type 0
AreMarked sends marks = (length sends ≤ length marks) × ((k number : ℕ) → k < length sends → takes_back (number + 1) (slice_index_or sends k no_message) ≡ true → slice_index marks number ≡ k + 1)

-- what the rules of a federation keep of the limits
pub record CanRun (lookahead : ℕ) (r : Rule) : Type 0 where
  pub conds : All (IsCond most_vars) r.conds
  pub actions : All (IsAction 256 most_vars (Some lookahead)) r.actions

-- where the rules of a federate run, at a time and with a value
abbrev pub scene_of : Parts → ℕ → ℕ → ℕ → Scene
scene_of p federate now value = record { end = p.end; sender = federate; lookahead = effective_lookahead p federate; time = now; value = value }

-- the rules of a trigger, at a time and with a value
abbrev pub state_after : Parts → ℕ → Trigger → ℕ → ℕ → State → State
state_after p federate on now value s = after_rules (scene_of p federate now value) on s (federate_at p federate).rules

-- the variables in the order of the file, and 0 in the places that are left
abbrev pub opening_vars : List Var → List ℕ
opening_vars vars = map (λ (v : Var). v.value) vars ++ replicate (most_vars - length vars) 0

-- the state of a federate that has run nothing
abbrev pub opening_state : Federate → State
opening_state f = record { vars = opening_vars f.vars; wish = f.advance; next = 1; sends = [] }
