-- What a federate's view tells.
use Rattle.std.specs.Prelude.{◌==◌, ℕ, Bool, true, false, ◌&&◌, ◌||◌, not, List, [], ◌∷◌, map, filter, slice_index_or, Option, Some, None}
use Rattle.std.specs.List.{filter_map}
use Rattle.kit_base.specs.declared.message.Message.{Message}
use Rattle.kit_model.specs.declared.journal.JournalEntry.{JournalEntry}
use Rattle.kit_model.specs.declared.journal.JournalEntry.TheVariants.{Received, Delivered}
use Rattle.kit_model.specs.Journals.{now_of}
use Rattle.kit_queue.specs.Entries.{messages_of}
use Rattle.kit_rules.specs.declared.table.Request.{Request}
use Rattle.kit_rules.specs.Parts.{Parts}
use Rattle.kit_rules.specs.Delivery.{is_transported, receivers_of, has_bit, due_time}
use Rattle.kit_lbts.specs.declared.view.Noted.{Noted}
use Rattle.kit_lbts.specs.declared.view.Filled.{Filled}
use Rattle.kit_lbts.specs.declared.view.InHand.{InHand}
use Rattle.kit_lbts.specs.declared.view.Orphan.{Orphan}
use Rattle.kit_lbts.specs.declared.view.Spent.{Spent}
use Rattle.kit_lbts.specs.declared.view.LbtsView.{LbtsView}

-- the federate's journal
abbrev pub entries_of : LbtsView → List JournalEntry
entries_of v = map (λ (e : Noted). e.entry) v.journal

-- its logical time
abbrev pub time_of : LbtsView → ℕ
time_of v = now_of (entries_of v)

-- a message that was received, with its colour
abbrev pub receipt_of : JournalEntry → ℕ → Option Filled
receipt_of (Received m) colour = Some (record { message = m; colour = colour })
receipt_of _ colour = None

abbrev pub receipts_in : List Noted → List Filled
receipts_in ns = filter_map (λ (e : Noted). receipt_of e.entry e.colour) ns

abbrev pub receipts : LbtsView → List Filled
receipts v = receipts_in v.journal

abbrev pub messages_received : LbtsView → List Message
messages_received v = map (λ (f : Filled). f.message) (receipts v)

abbrev pub delivery_of : JournalEntry → Option Message
delivery_of (Delivered granted m) = Some m
delivery_of _ = None

abbrev pub messages_delivered : LbtsView → List Message
messages_delivered v = filter_map delivery_of (entries_of v)

-- when its request is due, by what waits in its queue
abbrev pub due_by : Option Request → List Message → ℕ
due_by None waiting = 0
due_by (Some r) waiting = due_time r waiting

abbrev pub due_of : LbtsView → ℕ
due_of v = due_by v.request (messages_of v.queue)

-- whether its start's rules are still to run
abbrev pub is_new : Option Request → Bool
is_new None = true
is_new (Some _) = false

abbrev pub is_empty : {A : Type 0} → List A → Bool
is_empty [] = true
is_empty (_ ∷ _) = false

-- whether it promises by its logical time: its start is still to run, or messages are still to be posted
abbrev pub is_waiting : LbtsView → Bool
is_waiting v = is_new v.request || not (is_empty v.outbox)

-- whether a message is for the federate j
abbrev pub has_receiver : Parts → ℕ → Message → Bool
has_receiver p j m = has_bit (receivers_of p m.sender m.group) j

-- the messages that it sent and that are transported
abbrev pub transported_of : LbtsView → List Message
transported_of v = filter (is_transported v.federation) v.state.sends

-- a buffer by its owner and number
abbrev pub is_in_hand : ℕ → ℕ → InHand → Bool
is_in_hand i k h = h.from == i && h.buffer == k

abbrev pub is_spent : ℕ → ℕ → Spent → Bool
is_spent i k s = s.from == i && s.buffer == k

-- an Event by its sender and number
abbrev pub is_orphan : ℕ → ℕ → Orphan → Bool
is_orphan i n o = o.from == i && o.number == n

-- what an own buffer was last charged with
abbrev pub filled_in : LbtsView → ℕ → Option Filled
filled_in v k = slice_index_or v.filled k None
