-- What the rule says of each federate by itself.
use Rattle.std.specs.Prelude.{◌≡◌, ◌≢◌, ◌==◌, ℕ, ◌+◌, ◌<◌, ◌≤◌, Bool, true, false, ◌&&◌, not, if◌then◌else◌, List, [], ◌∷◌, ◌++◌, All, Contains, length, map, filter, count_by, drop, slice_index, slice_index_or, Option, Some, None, IfSome}
use Rattle.std.specs.Int.{bit_at}
use Rattle.std.specs.List.{list_any}
use Rattle.kit_base.specs.declared.message.Message.{Message}
use Rattle.kit_base.specs.Order.{in_order}
use Rattle.kit_ground.specs.declared.place.Place.{Place}
use Rattle.kit_ground.specs.declared.place.SeatBuffers.{SeatBuffers}
use Rattle.kit_ground.specs.Steps.{buffer_of}
use Rattle.kit_model.specs.Journals.{IsLawful, last_grant}
use Rattle.kit_queue.specs.declared.entry.Entry.{Entry}
use Rattle.kit_queue.specs.Entries.{messages_of, is_numbered, IsInOrder, AreNumberedApart}
use Rattle.kit_rules.specs.declared.table.Request.{Request}
use Rattle.kit_rules.specs.Federation.{IsWish}
use Rattle.kit_rules.specs.Delivery.{has_bit, is_transported, pending_messages}
use Rattle.kit_rules.specs.Simulation.{request_at}
use Rattle.kit_rules.specs.Parts.{Parts}
use Rattle.kit_rules.specs.Step.{is_event, no_message}
use Rattle.kit_rounds.specs.Ledgers.{last_run}
use Rattle.kit_lbts.specs.declared.view.InHand.{InHand}
use Rattle.kit_lbts.specs.declared.view.Posting.{Posting}
use Rattle.kit_lbts.specs.declared.view.Spent.{Spent}
use Rattle.kit_lbts.specs.declared.view.LbtsView.{LbtsView}
use Rattle.kit_lbts.specs.Views.{entries_of, time_of, messages_received, messages_delivered, has_receiver, is_in_hand, is_spent, is_orphan, transported_of}
use Rattle.kit_lbts.specs.Promises.{bound_of, added_of}
use Rattle.kit_lbts.specs.Ways.{letters_posted_to}
use Rattle.kit_lbts.specs.declared.view.Filled.{Filled}

-- whether an entry has this buffer
abbrev pub is_buffer : ℕ → Option ℕ → Bool
is_buffer k None = false
is_buffer k (Some l) = l == k

abbrev pub waits_in : ℕ → ℕ → Entry → Bool
waits_in i k e = e.message.sender == i && is_buffer k e.buffer

-- it is holding a buffer for one of three reasons: its copy is still to be received, its message waits, or it is
-- still to be released
pub record Holdings (p : Place LbtsView) : Type 0 where
  pub each : (i k : ℕ) → i < p.own.federates → k < p.own.buffers
      → bit_at (slice_index p.own.stock.holds i) k
      ≡ count_by (is_in_hand i k) p.client.in_hand + count_by (waits_in i k) p.client.queue + count_by (is_spent i k) p.client.spent
  pub in_hand : All (λ (h : InHand). (h.from < p.own.federates) × (h.buffer < p.own.buffers)) p.client.in_hand
  pub queue : All (λ (e : Entry). (e.message.sender < p.own.federates) × IfSome e.buffer (λ k. k < p.own.buffers)) p.client.queue
  pub spent : All (λ (s : Spent). (s.from < p.own.federates) × (s.buffer < p.own.buffers)) p.client.spent

-- its queue is what is pending of what it received; a message that waits without its buffer is below the bound
pub record Queue (j : ℕ) (p : Place LbtsView) : Type 0 where
  pub ordered : IsInOrder p.client.queue
  pub apart : AreNumberedApart p.client.queue
  pub is : messages_of p.client.queue ≡ in_order (pending_messages p.client.federation j (messages_delivered p.client) (messages_received p.client))
  pub ahead : All (λ (e : Entry). time_of p.client < e.message.time) p.client.queue
  pub settled : All (λ (e : Entry). e.buffer ≡ None → e.message.time < bound_of p.client) p.client.queue

-- whether a message takes back the Event of this sender and number
abbrev pub names : ℕ → ℕ → Message → Bool
names i n r = not (is_event r.kind) && r.sender == i && r.value == n

-- whether it is that Event
abbrev pub is_event_of : ℕ → ℕ → Message → Bool
is_event_of i n m = is_event m.kind && is_numbered i n m

-- whether the Retraction of this Event was received, and the Event itself was not
abbrev pub is_orphaned : ℕ → ℕ → List Message → Bool
is_orphaned i n ms = list_any (names i n) ms && not (list_any (is_event_of i n) ms)

-- its orphans are the Events whose Retraction it received before them, and what was delivered to it was received
pub record Receiving (v : LbtsView) : Type 0 where
  pub orphans : (i n : ℕ) → list_any (is_orphan i n) v.orphans ≡ is_orphaned i n (messages_received v)
  pub came : All (Contains (messages_received v)) (messages_delivered v)
  pub past : All (λ (m : Message). m.time ≤ time_of v) (messages_delivered v)

-- its journal is lawful, its grants are below the bound, and its request is that of its wish
pub record Granting (p : Place LbtsView) : Type 0 where
  pub lawful : IsLawful (entries_of p.client)
  pub below : IfSome (last_grant (entries_of p.client)) (λ t. t < bound_of p.client)
  pub within : time_of p.client ≤ p.client.federation.end
  pub wish : IsWish p.client.state.wish
  pub asked : (r : Request) → p.client.request ≡ Some r → time_of p.client < p.client.federation.end
      → r ≡ request_at p.client.state.wish (time_of p.client) p.client.federation.end

-- whether the first message of the outbox is still to be posted to j: by the buffer that is being posted, or, where
-- there is none, to each that it is for
abbrev pub is_owed : Option ℕ → SeatBuffers → Parts → ℕ → Message → Bool
is_owed None s f j m = has_receiver f j m
is_owed (Some k) s f j m = has_bit (buffer_of s k).to_post j

-- the messages of an outbox that are still to be posted to j
abbrev pub left_of : Option ℕ → SeatBuffers → Parts → ℕ → List Message → List Message
left_of sending s f j [] = []
left_of sending s f j (m ∷ ms) = if is_owed sending s f j m then m ∷ filter (has_receiver f j) ms else filter (has_receiver f j) ms

-- a Retraction takes back an Event of the same time and group that was sent, and no other one does
pub record TakeBack (sends : List Message) : Type 0 where
  pub target : All (λ (r : Message). is_event r.kind ≡ false
      → (e : Message) × Contains sends e × (is_event e.kind ≡ true) × (e.number ≡ r.value) × (e.time ≡ r.time) × (e.group ≡ r.group)) sends
  pub once : All (λ (r : Message). All (λ (s : Message). is_event r.kind ≡ false → is_event s.kind ≡ false → r.value ≡ s.value → r.number ≡ s.number) sends) sends

-- the numbers of a federate's messages go from 1 to this
abbrev pub most_sends : ℕ
most_sends = 16384

-- each message has one buffer, and that is charged with it once: what the buffers were last charged with is of these sends
-- and transported; but for the buffer that is being posted, it has left the outbox, from where alone buffers are
-- charged; and no two buffers have one message
pub record AreChargedOnce (f : Parts) (sends outbox : List Message) (sending : Option ℕ) (filled : List (Option Filled)) : Type 0 where
  pub sent : (k : ℕ) (x : Filled) → slice_index_or filled k None ≡ Some x → Contains (filter (is_transported f) sends) x.message
  pub gone : (k : ℕ) (x : Filled) → slice_index_or filled k None ≡ Some x → sending ≢ Some k → Contains outbox x.message → ⊥
  pub apart : (k l : ℕ) (x y : Filled) → k ≢ l → slice_index_or filled k None ≡ Some x → slice_index_or filled l None ≡ Some y → x.message.number ≢ y.message.number

-- what it sent: the messages to j that are transported are those posted to j and those still to be posted
pub record Sends (j : ℕ) (p : Place LbtsView) : Type 0 where
  pub own : All (λ (m : Message). m.sender ≡ j) p.client.state.sends
  pub numbered : (k : ℕ) → k < length p.client.state.sends → (slice_index_or p.client.state.sends k no_message).number ≡ k + 1
  pub next : p.client.state.next ≡ length p.client.state.sends + 1
  pub timed : All (λ (m : Message). 0 < m.time) p.client.state.sends
  pub takes_back : TakeBack p.client.state.sends
  pub waiting : All (Contains p.client.state.sends) p.client.outbox
  pub late : All (λ (m : Message). time_of p.client + added_of p ≤ m.time) p.client.outbox
  pub transported : All (λ (m : Message). is_transported p.client.federation m ≡ true) p.client.outbox
  -- in the order of their numbers, its transported messages are those posted whole and then its outbox
  pub behind : (posted : ℕ) × (p.client.outbox ≡ drop posted (transported_of p.client))
  pub once : AreChargedOnce p.client.federation p.client.state.sends p.client.outbox p.client.sending p.client.filled
  pub each : (i : ℕ) → i < p.own.federates
      → filter (has_receiver p.client.federation i) (transported_of p.client)
      ≡ map (λ (f : Filled). f.message) (letters_posted_to i p.client) ++ left_of p.client.sending p.own.stock p.client.federation i p.client.outbox
  pub receivers : All (λ (x : Posting). x.to < p.own.federates) p.client.posted
  -- it posted nothing in a later colour than its own
  pub coloured : All (λ (x : Posting). x.filled.colour ≤ last_run p.client.contributions) p.client.posted
  pub few : length p.client.state.sends ≤ most_sends
  -- before its start it has sent, received and been granted nothing, and contributed to no round
  pub new : p.client.request ≡ None → (p.client.state.sends ≡ []) × (p.client.posted ≡ []) × (p.client.journal ≡ []) × (p.client.outbox ≡ []) × (p.client.in_hand ≡ []) × (p.client.contributions ≡ [])
