-- Laws of the steps of a federate, each in the form that a call of the floor asks. The premises speak of the
-- seat's own place alone.
use Rattle.std.specs.Prelude.{◌≡◌, ◌≢◌, ◌==◌, ℕ, ◌<◌, ◌≤◌, ◌/◌, ◌^◌, ◌⊎◌, true, false, List, ◌∷◌, All, Contains, find, length, slice_index, Some, None}
use Rattle.std.specs.Int.{bit_at}
use Rattle.std.specs.List.{list_any}
use Rattle.kit_base.specs.declared.message.Message.{Message}
use Rattle.kit_base.specs.Words.{FitsHead, head_word, body_word}
use Rattle.kit_ground.specs.declared.address.Address.TheVariants.{Mail, Count, Part}
use Rattle.kit_ground.specs.declared.place.Deed.TheVariants.{Wrote, Charged, PostedTo, Collected, ReadPart, Released, SawFree}
use Rattle.kit_ground.specs.declared.place.Place.{Place}
use Rattle.kit_ground.specs.Layout.{mail_words}
use Rattle.kit_ground.specs.Memory.{Memory}
use Rattle.kit_ground.specs.Rules.{Keeps, Rule, WasFound, World}
use Rattle.kit_ground.specs.Steps.{IsChargeable, IsMask, buffer_of}
use Rattle.kit_queue.specs.declared.entry.Entry.{Entry}
use Rattle.kit_queue.specs.Entries.{entry_of, first_buffer, is_numbered, with_first_settled}
use Rattle.kit_rules.specs.Delivery.{is_transported, receivers_of}
use Rattle.kit_rules.specs.Step.{is_event}
use mathlib.Core.Option.{some}
use lib.ListN.{get_elem?}
use Rattle.kit_rounds.specs.Ledgers.{last_run}
use Rattle.kit_lbts.specs.declared.view.LbtsView.{LbtsView}
use Rattle.kit_lbts.specs.Views.{has_receiver, is_in_hand, is_spent, messages_received, time_of}
use Rattle.kit_lbts.specs.Promises.{bound_of}
use Rattle.kit_lbts.specs.Ways.{letters_posted_to}
use Rattle.kit_lbts.specs.Seats.{most_sends, waits_in}
use Rattle.kit_lbts.specs.Progress.{message_in, view_after, put_down, view_when_ready}
use Rattle.kit_lbts.specs.Rule.{lbts_rule}

-- a part of a buffer that was seen free is written
abbrev pub WritesKeep : Rule LbtsView → Type 0
WritesKeep rule = (p : Place LbtsView) (k part word : ℕ) → k < p.own.buffers → (buffer_of p.own.stock k).free ≡ true
    → Keeps rule view_after p (Part p.own.number k part) (λ _. Wrote k part word)

-- an own buffer may be charged: it has the first message of the outbox, with the colour of the federate, and no
-- other message is half posted
pub record MayCharge (p : Place LbtsView) (k mask : ℕ) (first : Message) (rest : List Message) : Type 0 where
  pub within : k < p.own.buffers
  pub chargeable : IsChargeable p.own k
  pub others : IsMask p.own mask
  pub all : mask ≡ receivers_of p.client.federation first.sender first.group
  pub outbox : p.client.outbox ≡ first ∷ rest
  pub none : p.client.sending ≡ None
  pub head : (buffer_of p.own.stock k).head ≡ head_word first (last_run p.client.contributions)
  pub body : (buffer_of p.own.stock k).body ≡ body_word first
  pub fits : FitsHead first
  pub value : first.value < 2 ^ 32

abbrev pub ChargesKeep : Rule LbtsView → Type 0
ChargesKeep rule = (p : Place LbtsView) (k mask : ℕ) (first : Message) (rest : List Message) → MayCharge p k mask first rest
    → Keeps rule view_after p (Count p.own.number k) (λ _. Charged k mask)

-- it is posted to one to whom it is still to be posted
abbrev pub PostsKeep : Rule LbtsView → Type 0
PostsKeep rule = (p : Place LbtsView) (k j : ℕ) → k < p.own.buffers → j < p.own.federates → bit_at (buffer_of p.own.stock k).to_post j ≡ 1
    → Keeps rule view_after p (Mail j p.own.number (k / 64)) (λ _. PostedTo k j)

-- a mail word is collected, by one whose start's rules have numbers enough
abbrev pub CollectsKeep : Rule LbtsView → Type 0
CollectsKeep rule = (p : Place LbtsView) (i word : ℕ) → i < p.own.federates → i ≢ p.own.number → word < mail_words p.own.buffers → length (view_when_ready p.own.number p.client).state.sends ≤ most_sends
    → Keeps rule view_after p (Mail p.own.number i word) (λ mail. Collected i word mail)

-- the head of a copy that is in hand is read
abbrev pub HeadsKeep : Rule LbtsView → Type 0
HeadsKeep rule = (p : Place LbtsView) (i k : ℕ) → i < p.own.federates → k < p.own.buffers → bit_at (slice_index p.own.stock.holds i) k ≡ 1
    → Keeps rule view_after p (Part i k 0) (λ word. ReadPart i k 0 word)

-- a copy is in hand, and its head was read
abbrev pub HasHead : Place LbtsView → ℕ → ℕ → ℕ → Type 0
HasHead p i k head = find (is_in_hand i k) p.client.in_hand ≡ Some (record { from = i; buffer = k; head = Some head })

-- its body is read: the copy is received
abbrev pub BodiesKeep : Rule LbtsView → Type 0
BodiesKeep rule = (p : Place LbtsView) (i k head : ℕ) → i < p.own.federates → k < p.own.buffers → HasHead p i k head
    → Keeps rule view_after p (Part i k 1) (λ word. ReadPart i k 1 word)

-- what the reader learns of the message: it is timed at or after the known bound, and after the last grant, it is for the reader and in
-- time, nothing of its sender and number was received before or waits, and i had posted it to the reader
pub record IsTold (p : Place LbtsView) (i : ℕ) (message : Message) : Type 0 where
  pub bound : bound_of p.client ≤ message.time
  pub late : time_of p.client < message.time
  pub for_it : has_receiver p.client.federation p.own.number message ≡ true
  pub transported : is_transported p.client.federation message ≡ true
  -- its number is one that a federate has, and so is the one that a Retraction names
  pub number : (1 ≤ message.number) × (message.number ≤ most_sends)
  pub named : is_event message.kind ≡ false → (1 ≤ message.value) × (message.value ≤ most_sends)
  pub unheard : list_any (is_numbered i message.number) (messages_received p.client) ≡ false
  pub new : entry_of i message.number p.client.queue ≡ None
  pub posted : (m : Memory) × (places : List (Place LbtsView)) × (q : Place LbtsView) × World lbts_rule p m places × (get_elem? places i ≡ some q)
      × ((colour : ℕ) × Contains (letters_posted_to p.own.number q.client) (record { message = message; colour = colour }))

abbrev pub BodiesTell : Rule LbtsView → Type 0
BodiesTell rule = (p : Place LbtsView) (i k head word : ℕ) → i < p.own.federates → k < p.own.buffers → HasHead p i k head
    → WasFound rule p (Part i k 1) word → IsTold p i (message_in i head word)

-- a buffer may be released that is spent, or whose message waits and is timed below the known bound
pub record MaySettle (p : Place LbtsView) (i k : ℕ) : Type 0 where
  pub waits : list_any (waits_in i k) p.client.queue ≡ true
  pub below : All (λ (e : Entry). waits_in i k e ≡ true → e.message.time < bound_of p.client) p.client.queue

abbrev pub ReleasesKeep : Rule LbtsView → Type 0
ReleasesKeep rule = (p : Place LbtsView) (i k : ℕ) → i < p.own.federates → k < p.own.buffers → bit_at (slice_index p.own.stock.holds i) k ≡ 1
    → (list_any (is_spent i k) p.client.spent ≡ true) ⊎ MaySettle p i k
    → Keeps rule view_after p (Count i k) (λ _. Released i k)

-- the looks that tell the view nothing
abbrev pub CountLooksKeep : Rule LbtsView → Type 0
CountLooksKeep rule = (p : Place LbtsView) (k : ℕ) → k < p.own.buffers → Keeps rule view_after p (Count p.own.number k) (λ count. SawFree k (count == 0))

-- what a queue's first buffer below the bound tells: the seat holds it, it may be released, and to give it up is
-- to settle that entry alone
pub record MaySettleFirst (p : Place LbtsView) (below i k : ℕ) : Type 0 where
  pub from : i < p.own.federates
  pub buffer : k < p.own.buffers
  pub held : bit_at (slice_index p.own.stock.holds i) k ≡ 1
  pub may : MaySettle p i k
  pub queue : (put_down i k p.client).queue ≡ with_first_settled below p.client.queue

abbrev pub SettlesTell : Rule LbtsView → Type 0
SettlesTell rule = (p : Place LbtsView) (below i k : ℕ) → below ≤ bound_of p.client → first_buffer below p.client.queue ≡ Some (i, k)
    → (m : Memory) (places : List (Place LbtsView)) → World rule p m places → MaySettleFirst p below i k
