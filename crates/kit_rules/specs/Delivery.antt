-- Who receives a message, which messages are pending, and when a request is due.
use Rattle.std.specs.Prelude.{ℕ, ◌-◌, ◌/◌, ◌%◌, ◌^◌, ◌==◌, nat_le, min, Bool, ◌&&◌, not, if◌then◌else◌, List, [], ◌∷◌, filter, fold, Option, Some, None}
use Rattle.std.specs.List.{list_any}
use Rattle.kit_base.specs.declared.message.Message.{Message}
use Rattle.kit_base.specs.Order.{in_order}
use Rattle.kit_rules.specs.declared.table.Request.{Request}
use Rattle.kit_rules.specs.declared.table.Request.TheVariants.{Tar, Ner}
use Rattle.kit_rules.specs.Parts.{Parts, group_at}
use Rattle.kit_rules.specs.Step.{is_event}

-- whether the mask has the bit of a federate
abbrev pub has_bit : ℕ → ℕ → Bool
has_bit mask j = (mask / 2 ^ j) % 2 == 1

-- the mask without a federate
abbrev pub without_bit : ℕ → ℕ → ℕ
without_bit mask j = if has_bit mask j then mask - 2 ^ j else mask

-- the members of a group but for the sender
abbrev pub receivers_of : Parts → ℕ → ℕ → ℕ
receivers_of p sender group = without_bit (group_at p group).members sender

-- in time, and somebody receives it
abbrev pub is_transported : Parts → Message → Bool
is_transported p m = nat_le m.time p.end && not (receivers_of p m.sender m.group == 0)

-- whether a message is the Retraction of another
abbrev pub retracts : Message → Message → Bool
retracts m r = not (is_event r.kind) && r.sender == m.sender && r.value == m.number

-- whether two messages are one, by time, sender and number
abbrev pub is_same : Message → Message → Bool
is_same m x = x.time == m.time && x.sender == m.sender && x.number == m.number

-- an Event for federate i that is transported, not delivered and not retracted
abbrev pub is_pending : Parts → ℕ → List Message → List Message → Message → Bool
is_pending p i got sent m = is_event m.kind && is_transported p m && has_bit (receivers_of p m.sender m.group) i && not (list_any (is_same m) got) && not (list_any (retracts m) sent)

-- the pending Events of federate i, of those that were sent
abbrev pub pending_messages : Parts → ℕ → List Message → List Message → List Message
pending_messages p i got sent = filter (is_pending p i got sent) sent

-- the due time of a request where these are pending
abbrev pub due_time : Request → List Message → ℕ
due_time (Tar t) ms = t
due_time (Ner t) ms = fold (λ t m. min t m.time) t ms

-- the least time of messages, if there are any
abbrev pub least_time : List Message → Option ℕ
least_time [] = None
least_time (m ∷ ms) = Some (fold (λ t m. min t m.time) m.time ms)

-- the due time of a request where this is the least time of a pending message
abbrev pub request_due : Request → Option ℕ → ℕ
request_due (Tar t) least = t
request_due (Ner t) None = t
request_due (Ner t) (Some least) = min t least

-- a pending message timed d or less
abbrev pub is_due : Parts → ℕ → ℕ → List Message → List Message → Message → Bool
is_due p i d got sent m = nat_le m.time d && is_pending p i got sent m

-- those in the order of delivery
abbrev pub due_messages : Parts → ℕ → ℕ → List Message → List Message → List Message
due_messages p i d got sent = in_order (filter (is_due p i d got sent) sent)
