-- The receipt of transient messages: what was collected, what came of it, and what it needs.
use Rattle.std.specs.Prelude.{◌≡◌, ◌≢◌, ℕ, ◌+◌, ◌*◌, ◌<◌, ◌≤◌, ◌⊎◌, Bool, true, false, not, List, [], ◌∷◌, ◌++◌, All, AllPairs, length, map, filter, vec_capacity, Option, Some, None, IfSome}
use Rattle.std.specs.List.{list_any}
use Rattle.kit_base.specs.declared.message.Message.{Message}
use Rattle.kit_base.specs.declared.words.Head.{Head}
use Rattle.kit_base.specs.Words.{body_of, head_of}
use Rattle.kit_ground.specs.declared.place.Deed.TheVariants.{Released}
use Rattle.kit_ground.specs.declared.place.Place.{Place}
use Rattle.kit_ground.specs.Layout.{mail_words}
use Rattle.kit_ground.specs.Steps.{place_after}
use Rattle.kit_model.specs.declared.journal.Journal.{Journal}
use Rattle.kit_queue.specs.declared.entry.Entry.{Entry}
use Rattle.kit_queue.specs.Entries.{is_numbered}
use Rattle.kit_lbts.specs.declared.view.InHand.{InHand}
use Rattle.kit_lbts.specs.declared.view.LbtsView.{LbtsView}
use Rattle.kit_lbts.specs.LedgerLaws.{ready_place}
use Rattle.kit_lbts.specs.MessageLaws.{HasHead}
use Rattle.kit_lbts.specs.Progress.{in_hand, view_after}
use Rattle.kit_lbts.specs.Views.{is_spent, messages_received}
use Rattle.kit_node.specs.declared.inbox.Arrival.{Arrival}
use Rattle.kit_node.specs.declared.inbox.Inbox.{Inbox}
use Rattle.kit_node.specs.declared.inbox.Orphan.{Orphan}
use Rattle.kit_node.specs.Fields.{is_named_so}
use Rattle.kit_node.specs.Frames.{IsOther, IsSameSeat, IsSince, OnlyReceipts, collects_at, last_mail}

abbrev Seat : Type 0
Seat = Place LbtsView

-- ROOM, with `spare` that of a queue: for so many messages
pub record HasRoom {Q : Type 0} (spare : Q → ℕ) (most : ℕ) (i : Inbox Q) : Type 0 where
  pub queue : most ≤ spare i.queue
  pub orphans : length i.orphans.items + most ≤ vec_capacity i.orphans
  pub arrivals : length i.arrivals.items + most ≤ vec_capacity i.arrivals

pub record HasRoomFor {Q : Type 0} (spare : Q → ℕ) (count : ℕ) (i : Inbox Q) (j : Journal) : Type 0 where
  pub queue : count ≤ spare i.queue
  pub orphans : length i.orphans.items + count ≤ vec_capacity i.orphans
  pub journal : count ≤ j.spare

-- for all that one sender may have posted, before it is collected
pub record HasRoomToReceive {Q : Type 0} (spare : Q → ℕ) (most : ℕ) (i : Inbox Q) (j : Journal) : Type 0 where
  pub inbox : HasRoom spare most i
  pub journal : most ≤ j.spare

-- one message takes the room of one at most
pub record KeepsRoom {Q : Type 0} (spare : Q → ℕ) (i i' : Inbox Q) : Type 0 where
  pub queue : spare i.queue ≤ spare i'.queue + 1
  pub orphans : (count : ℕ) → length i.orphans.items + (count + 1) ≤ vec_capacity i.orphans → length i'.orphans.items + count ≤ vec_capacity i'.orphans

-- of an inbox only its queue and its orphans were changed
pub record SameBesides {Q : Type 0} (i i' : Inbox Q) : Type 0 where
  pub receipts : i'.receipts ≡ i.receipts
  pub arrivals : i'.arrivals ≡ i.arrivals
  pub settled : i'.settled ≡ i.settled

-- BUFFERS that are still to be given back
pub record IsSpentAt (i k : ℕ) (p : Seat) : Type 0 where
  pub from : i < p.own.federates
  pub buffer : k < p.own.buffers
  pub spent : list_any (is_spent i k) p.client.spent ≡ true

abbrev pub IsSpentBuffer : Bool → ℕ → ℕ → Seat → Type 0
IsSpentBuffer awaited i k p = awaited ≡ true → IsSpentAt i k p

-- that of a Retraction, and that of its target where it waits with one
pub record AreSpentBuffers (i k : ℕ) (target : Option Entry) (p : Seat) : Type 0 where
  pub own : IsSpentAt i k p
  pub of_target : IfSome target (λ (e : Entry). IfSome e.buffer (λ l. (l ≢ k) × IsSpentAt i l p))

-- a buffer is given back, or where there is none nothing is done
abbrev pub given_back : ℕ → Option ℕ → Seat → Seat
given_back i None p = p
given_back i (Some k) p = place_after view_after (Released i k) p

abbrev pub retracted_place : ℕ → Option Entry → Seat → Seat
retracted_place i None p = p
retracted_place i (Some e) p = given_back i e.buffer p

-- ORPHANS
abbrev pub orphan_of : ℕ → ℕ → Orphan
orphan_of sender number = record { sender = sender; number = number }

-- whether a Retraction of a message came before it
abbrev pub is_awaited : List Orphan → ℕ → ℕ → Bool
is_awaited orphans sender number = list_any (is_named_so (orphan_of sender number)) orphans

abbrev pub awaited_no_more : List Orphan → ℕ → ℕ → List Orphan
awaited_no_more orphans sender number = filter (λ o. not (is_named_so (orphan_of sender number) o)) orphans

abbrev pub orphans_after : Option Entry → Orphan → List Orphan → List Orphan
orphans_after None o orphans = orphans ++ o ∷ []
orphans_after (Some e) o orphans = orphans

-- the message that a head and a body tell
abbrev pub message_with : ℕ → Head → ℕ → Message
message_with from head body = record { time = (body_of body).0; sender = from; number = head.number; kind = head.kind; group = head.group; value = (body_of body).1 }

-- IN HAND. These are the copies in hand, all of one sender, in the order of the mail words; their heads are still to be read
abbrev pub hand_of : ℕ → List Arrival → List InHand
hand_of from arrivals = map (λ (a : Arrival). in_hand from a.buffer) arrivals

abbrev pub HaveOwnBuffers : List Arrival → Type 0
HaveOwnBuffers arrivals = AllPairs (λ (a b : Arrival). a.buffer ≢ b.buffer) arrivals

pub record AreInHand (from : ℕ) (arrivals : List Arrival) (p : Seat) : Type 0 where
  pub hand : p.client.in_hand ≡ hand_of from arrivals
  pub apart : HaveOwnBuffers arrivals
  pub inside : All (λ (a : Arrival). a.buffer < p.own.buffers) arrivals

-- a copy is in hand, and its head was read
pub record HasArrived (from : ℕ) (p : Seat) (a : Arrival) : Type 0 where
  pub word : ℕ
  pub has : HasHead p from a.buffer word
  pub head : a.head ≡ head_of word
  pub inside : a.buffer < p.own.buffers

-- and so have all that are in hand
pub record HaveArrived (from : ℕ) (arrivals : List Arrival) (p : Seat) : Type 0 where
  pub each : All (HasArrived from p) arrivals
  pub apart : HaveOwnBuffers arrivals
  pub many : length p.client.in_hand ≡ length arrivals

-- SILENCE: nothing was in the mail words that were last collected
abbrev pub IsSilentFrom : ℕ → Seat → Type 0
IsSilentFrom i q = (w : ℕ) → w < mail_words q.own.buffers → (last_mail q i w).gave ≡ 0

abbrev pub IsSilent : Seat → Type 0
IsSilent q = (i : ℕ) → IsOther q i → IsSilentFrom i q

-- THE ORDER OF RECEIPT: the copies of the lesser sender first, and those of one sender in the order of their numbers
abbrev pub ComesBefore : Message → Message → Type 0
ComesBefore a b = (a.sender < b.sender) ⊎ ((a.sender ≡ b.sender) × (a.number < b.number))

-- all that was received since p came in this order
pub record ReceivesInOrder (p q : Seat) : Type 0 where
  pub came : List Message
  pub received : messages_received q.client ≡ messages_received p.client ++ came
  pub order : AllPairs ComesBefore came

-- all that was received since p is of one sender, and came in the order of its numbers
pub record ReceivesInOrderFrom (from : ℕ) (p q : Seat) : Type 0 where
  pub came : List Message
  pub received : messages_received q.client ≡ messages_received p.client ++ came
  pub sender : All (λ (m : Message). m.sender ≡ from) came
  pub order : AllPairs (λ (a b : Message). a.number < b.number) came

-- one copy, with the number that its head has, which no message of its sender had before
pub record ReceivesOne (from : ℕ) (a : Arrival) (p q : Seat) : Type 0 where
  pub message : Message
  pub sender : message.sender ≡ from
  pub number : message.number ≡ a.head.number
  pub unheard : list_any (is_numbered from message.number) (messages_received p.client) ≡ false
  pub received : messages_received q.client ≡ messages_received p.client ++ message ∷ []

-- the copies in hand, as they are taken from the end: the last has the least number
abbrev pub NumbersFall : List Arrival → Type 0
NumbersFall arrivals = AllPairs (λ (a b : Arrival). b.head.number ≤ a.head.number) arrivals

-- FRAMES. Of a place only the mail, what is held, and what the view says of receipts was changed
pub record ReceivesOnly (p q : Seat) : Type 0 where
  pub seat : IsSameSeat p q
  pub registers : q.own.registers ≡ p.own.registers
  pub counts : q.own.counts ≡ p.own.counts
  pub stop : q.own.stop ≡ p.own.stop
  pub shown : q.own.shown ≡ p.own.shown
  pub buffers : q.own.stock.buffers ≡ p.own.stock.buffers
  pub view : q.client ≡ record p.client { journal = q.client.journal; queue = q.client.queue; in_hand = q.client.in_hand; orphans = q.client.orphans; spent = q.client.spent }
  pub journal : OnlyReceipts p.client q.client

-- the mail words of the other federates are as they were
pub record LeavesOtherMail (i : ℕ) (p q : Seat) : Type 0 where
  pub collects : (j w : ℕ) → j ≢ i → w < mail_words q.own.buffers → collects_at q j w ≡ collects_at p j w
  pub mail : (j w : ℕ) → j ≢ i → w < mail_words q.own.buffers → last_mail q j w ≡ last_mail p j w

-- each mail word of a federate was collected once
abbrev pub IsCollected : ℕ → Seat → Seat → Type 0
IsCollected i p q = (w : ℕ) → w < mail_words q.own.buffers → (collects_at q i w ≡ collects_at p i w + 1) × IsSince p (last_mail q i w)

-- WHAT EACH PART OF A RECEIPT COMES TO
pub record HasCollected (from : ℕ) (arrivals : List Arrival) (p q : Seat) : Type 0 where
  pub leaves : ReceivesOnly p q
  pub others : LeavesOtherMail from p q
  pub collected : IsCollected from p q
  pub hand : AreInHand from arrivals q
  pub view : q.client ≡ record p.client { in_hand = q.client.in_hand }
  pub silent : arrivals ≡ [] → IsSilentFrom from q
  pub heard : IsSilentFrom from q → arrivals ≡ []
  pub still : arrivals ≡ [] → q.own.stock.holds ≡ p.own.stock.holds
  pub few : length arrivals ≤ 64 * mail_words q.own.buffers

pub record HasReadHeads (from : ℕ) (before after : List Arrival) (p q : Seat) : Type 0 where
  pub leaves : ReceivesOnly p q
  pub mail : (q.own.mail ≡ p.own.mail) × (q.own.collects ≡ p.own.collects)
  pub view : q.client ≡ record p.client { in_hand = q.client.in_hand }
  pub arrived : HaveArrived from after q
  pub many : length after ≡ length before

-- one copy was received
pub record HasTaken (from : ℕ) (a : Arrival) (p q : Seat) : Type 0 where
  pub leaves : ReceivesOnly p q
  pub mail : (q.own.mail ≡ p.own.mail) × (q.own.collects ≡ p.own.collects)
  pub fewer : length q.client.in_hand + 1 ≡ length p.client.in_hand
  pub others : (b : Arrival) → b.buffer ≢ a.buffer → HasArrived from p b → HasArrived from q b
  pub spent : q.client.spent ≡ []

-- all that were in hand were received
pub record HasTakenAll (p q : Seat) : Type 0 where
  pub leaves : ReceivesOnly p q
  pub mail : (q.own.mail ≡ p.own.mail) × (q.own.collects ≡ p.own.collects)
  pub in_hand : q.client.in_hand ≡ []
  pub spent : q.client.spent ≡ []

pub record HasReceivedFrom (from : ℕ) (p q : Seat) : Type 0 where
  pub leaves : ReceivesOnly p q
  pub others : LeavesOtherMail from p q
  pub collected : IsCollected from p q

-- the mail of each other federate was collected once, and all that it had was received
pub record HasReceived (p q : Seat) : Type 0 where
  pub leaves : ReceivesOnly (ready_place p) q ⊎ (q ≡ p)
  pub alone : q ≡ p → p.own.federates ≤ 1
  pub collected : (i : ℕ) → IsOther q i → IsCollected i p q

-- some federates' mail was
abbrev pub HasReceivedInPart : Seat → Seat → Type 0
HasReceivedInPart p q = ReceivesOnly (ready_place p) q ⊎ (q ≡ p)
