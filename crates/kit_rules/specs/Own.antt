-- What the Retractions of a federate may still name, and the state in which nothing else that it sent is known.
use Rattle.std.specs.Prelude.{ℕ, ◌-◌, ◌≤◌, ◌<◌, Bool, ◌&&◌, not, List, filter, map, fold, slice_set}
use Rattle.std.specs.List.{list_any, range_with_len}
use Rattle.kit_base.specs.declared.message.Message.{Message}
use Rattle.kit_base.specs.declared.message.Kind.TheVariants.{Event}
use Rattle.kit_rules.specs.declared.table.Wish.{Wish}
use Rattle.kit_rules.specs.declared.scene.State.{State}
use Rattle.kit_rules.specs.declared.own.Own.{Own}
use Rattle.kit_rules.specs.Step.{is_event, takes_back}

-- whether a message is an Event that no Retraction among the sends names
abbrev pub is_untaken : List Message → Message → Bool
is_untaken sends m = is_event m.kind && not (list_any (takes_back m.number) sends)

-- a message as far as a Retraction of it reads it
abbrev pub own_of : Message → Own
own_of m = record { number = m.number; time = m.time; group = m.group }

-- the Events among the sends that no Retraction names, in their order
abbrev pub own_events : List Message → List Own
own_events sends = map own_of (filter (is_untaken sends) sends)

-- the Event of federate i, with no value
abbrev pub own_message : ℕ → Own → Message
own_message i o = record { time = o.time; sender = i; number = o.number; kind = Event; group = o.group; value = 0 }

-- what stands for a send of federate i that no Retraction can name any more: an Event of time 0
abbrev pub past_message : ℕ → ℕ → Message
past_message i n = record { time = 0; sender = i; number = n; kind = Event; group = 0; value = 0 }

-- an Event in the place of the send with its number
abbrev pub with_own : ℕ → List Message → Own → List Message
with_own i sends o = slice_set sends (o.number - 1) (own_message i o)

-- the sends of federate i below its next number, of which these Events alone can still be named
abbrev pub restored_sends : ℕ → ℕ → List Own → List Message
restored_sends i next own = fold (with_own i) (map (past_message i) (range_with_len 1 (next - 1))) own

-- the state of federate i with these values, and of its sends these alone
abbrev pub restored_state : ℕ → List ℕ → Wish → ℕ → List Own → State
restored_state i vars wish next own = record { vars = vars; wish = wish; next = next; sends = restored_sends i next own }

-- an Event has a number from 1 on and below the next
abbrev pub IsNumberedBelow : ℕ → Own → Type 0
IsNumberedBelow next o = (1 ≤ o.number) × (o.number < next)
