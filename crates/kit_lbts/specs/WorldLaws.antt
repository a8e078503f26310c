-- What the rule says between any two steps, clause by clause.
use Rattle.std.specs.Prelude.{◌≡◌, ◌≢◌, ℕ, ◌+◌, ◌<◌, ◌≤◌, ◌⊎◌, List, length, map, filter, drop, sum_by, slice_index, ◌++◌, All, Contains, None, Some, IfSome}
use Rattle.std.specs.Int.{bit_at}
use Rattle.std.specs.List.{list_any}
use mathlib.Core.Option.{some}
use lib.ListN.{get_elem?}
use Rattle.kit_base.specs.declared.message.Message.{Message}
use Rattle.kit_base.specs.Order.{in_order}
use Rattle.kit_ground.specs.declared.address.Address.TheVariants.{Register, Count}
use Rattle.kit_ground.specs.declared.place.Place.{Place}
use Rattle.kit_ground.specs.Memory.{Memory}
use Rattle.kit_ground.specs.Rules.{World, stock_of}
use Rattle.kit_ground.specs.Sets.{Pool}
use Rattle.kit_ground.specs.Steps.{buffer_of}
use Rattle.kit_model.specs.Blocks.{everybody}
use Rattle.kit_model.specs.Journals.{IsLawful, last_grant, lines_told}
use Rattle.kit_parts.specs.Fronts.{IsFront, blocks_of}
use Rattle.kit_queue.specs.declared.entry.Entry.{Entry}
use Rattle.kit_queue.specs.Entries.{messages_of}
use Rattle.kit_rounds.specs.Channels.{all_on_way, all_posts}
use Rattle.kit_rounds.specs.Laws.{is_old_stamp}
use Rattle.kit_rounds.specs.Least.{came_after, came_to_others, counted_by, least_number}
use Rattle.kit_rounds.specs.Ledgers.{Copy, Ledger, at_round}
use Rattle.kit_rounds.specs.Rounds.{EndsRun, HasContributed, IsFaithful, result_of, run_of}
use Rattle.kit_rounds.specs.Rule.{IsAbove, IsBound}
use Rattle.kit_rules.specs.declared.table.Request.{Request}
use Rattle.kit_rules.specs.Delivery.{pending_messages}
use Rattle.kit_rules.specs.Parts.{federate_at}
use Rattle.kit_rules.specs.Simulation.{after_grants, lines_of, seat_at, world_at_start}
use Rattle.kit_rules.specs.Step.{opening_state}
use Rattle.kit_lbts.specs.declared.view.Filled.{Filled}
use Rattle.kit_lbts.specs.declared.view.LbtsView.{LbtsView}
use Rattle.kit_lbts.specs.Agreement.{AgreeingRule, agreeing_rule, blocks_in, seat_of}
use Rattle.kit_lbts.specs.AgreementLaws.{IsComplete}
use Rattle.kit_lbts.specs.Letters.{IsLetter, IsSending, letter_in}
use Rattle.kit_lbts.specs.Promises.{added_of, bound_of, ledgers_of}
use Rattle.kit_ground.specs.Layout.{clock_of}
use Rattle.kit_lbts.specs.Registers.{Learnt, Registers}
use Rattle.kit_lbts.specs.Seats.{AreChargedOnce, is_orphaned, left_of}
use Rattle.kit_lbts.specs.Views.{messages_delivered, entries_of, has_receiver, is_orphan, messages_received, time_of, transported_of}
use Rattle.kit_lbts.specs.Ways.{WayBetween, letters_posted_to}

-- what holds of all words and places that the rule holds of
abbrev pub InEachWorld : (Memory → List (Place LbtsView) → Type 0) → Type 0
InEachWorld A = (m : Memory) (places : List (Place LbtsView)) → AgreeingRule m places → A m places

-- of each federate there, by its number and its place
abbrev pub OfEachFederate : (Memory → ℕ → Place LbtsView → Type 0) → Type 0
OfEachFederate A = InEachWorld (λ m places. (j : ℕ) (p : Place LbtsView) → get_elem? places j ≡ some p → A m j p)

-- and of each two, the sender first
abbrev pub OfEachTwo : (Memory → ℕ → ℕ → Place LbtsView → Place LbtsView → Type 0) → Type 0
OfEachTwo A = InEachWorld (λ m places. (i j : ℕ) (p q : Place LbtsView) → get_elem? places i ≡ some p → get_elem? places j ≡ some q → A m i j p q)

-- ---- each federate agrees with the sequential simulation

-- what it delivered and was granted are whole blocks, the first of its part
abbrev pub BlocksAreAFront : Type 0
BlocksAreAFront = OfEachFederate (λ m j p. (lines_told j (entries_of p.client) ≡ lines_of (blocks_in j p.client)) × IsFront p.client.federation j (blocks_in j p.client))

-- what it delivered it had received
abbrev pub DeliveredWasReceived : Type 0
DeliveredWasReceived = OfEachFederate (λ m j p. All (Contains (messages_received p.client)) (messages_delivered p.client))

-- it stands where the simulation has it after so many grants, by which it has made these blocks; before its start it
-- stands at its opening
pub record StandsAsSimulated (j : ℕ) (v : LbtsView) : Type 0 where
  pub new : v.request ≡ None → v.state ≡ opening_state (federate_at v.federation j)
  pub seat : (r : Request) → v.request ≡ Some r
      → (n : ℕ) × (blocks_of j (after_grants v.federation n (world_at_start v.federation)).blocks ≡ blocks_in j v)
      × (seat_at (after_grants v.federation n (world_at_start v.federation)) j ≡ seat_of r v)

abbrev pub StatesAreSimulated : Type 0
StatesAreSimulated = OfEachFederate (λ m j p. StandsAsSimulated j p.client)

-- its transported sends are those posted whole and then its outbox, in the order of their numbers
abbrev pub OutboxesStandBehind : Type 0
OutboxesStandBehind = OfEachFederate (λ m j p. (posted : ℕ) × (p.client.outbox ≡ drop posted (transported_of p.client)))

-- those for one receiver are those posted to it and those still to be posted
abbrev pub SendsArePosted : Type 0
SendsArePosted = OfEachFederate (λ m j p. (i : ℕ) → i < p.own.federates
    → filter (has_receiver p.client.federation i) (transported_of p.client)
    ≡ map (λ (f : Filled). f.message) (letters_posted_to i p.client) ++ left_of p.client.sending p.own.stock p.client.federation i p.client.outbox)

-- what waits in the outbox is timed at the logical time and the lookahead, or later
abbrev pub WaitingIsLate : Type 0
WaitingIsLate = OfEachFederate (λ m j p. All (λ (x : Message). time_of p.client + added_of p ≤ x.time) p.client.outbox)

-- its queue is what is pending of what it received
abbrev pub QueuesArePending : Type 0
QueuesArePending = OfEachFederate (λ m j p. messages_of p.client.queue ≡ in_order (pending_messages p.client.federation j (messages_delivered p.client) (messages_received p.client)))

-- an entry with a buffer holds that, and its message lies there
abbrev pub EntriesLieInBuffers : Type 0
EntriesLieInBuffers = OfEachTwo (λ m i j p q. All (λ (e : Entry). e.message.sender ≡ i
    → IfSome e.buffer (λ k. (bit_at (slice_index q.own.stock.holds i) k ≡ 1) × ((letter_in p.client k).message ≡ e.message))) q.client.queue)

-- one without is timed below the known bound
abbrev pub SettledAreBelow : Type 0
SettledAreBelow = OfEachFederate (λ m j p. All (λ (e : Entry). e.buffer ≡ None → e.message.time < bound_of p.client) p.client.queue)

-- its orphans are the Events whose Retraction it received, and not the Event
abbrev pub OrphansAreRetracted : Type 0
OrphansAreRetracted = OfEachFederate (λ m j p. (i n : ℕ) → list_any (is_orphan i n) p.client.orphans ≡ is_orphaned i n (messages_received p.client))

-- each copy that was posted is received, in hand or in the mail, in one of these places; and a head that was read is
-- that of the copy
abbrev pub CopiesAreInOnePlace : Type 0
CopiesAreInOnePlace = OfEachTwo (λ m i j p q. WayBetween m i j p q)

-- each message is charged into one buffer, once
abbrev pub MessagesAreChargedOnce : Type 0
MessagesAreChargedOnce = OfEachFederate (λ m j p. AreChargedOnce p.client.federation p.client.state.sends p.client.outbox p.client.sending p.client.filled)

-- a buffer that counts a reader has the two words of its letter
abbrev pub CountedAreLetters : Type 0
CountedAreLetters = OfEachFederate (λ m j p. (k : ℕ) → k < p.own.buffers → 0 < m (Count j k) → IsLetter m j k (letter_in p.client k))

-- one that is not posted whole is that of the first message of the outbox, in the federate's colour
abbrev pub HalfPostedAreFirst : Type 0
HalfPostedAreFirst = OfEachFederate (λ m j p. (k : ℕ) → (buffer_of p.own.stock k).to_post ≢ 0 → IsSending p k)

-- where it was granted the end, its part is complete
abbrev pub EndedAreComplete : Type 0
EndedAreComplete = OfEachFederate (λ m j p. p.client.federation.end ≤ time_of p.client → IsComplete j p.client)

-- ---- the rounds of the reduction

-- the round that is under way, by the number of those before it: to these all have contributed, to it not all, and
-- to none after it anybody
pub record IsCurrent (n : ℕ) (ledgers : ℕ → Ledger) (done : ℕ) : Type 0 where
  pub before : (j k : ℕ) → j < n → k < done → HasContributed (ledgers j) k
  pub after : (j : ℕ) → j < n → length (ledgers j).contributions ≤ done + 1
  pub lacking : (j : ℕ) × (j < n) × (length (ledgers j).contributions ≡ done)

-- there is one
abbrev pub OneIsCurrent : Type 0
OneIsCurrent = InEachWorld (λ m places. (done : ℕ) × IsCurrent (length places) (ledgers_of places) done)

-- what holds of it, with the number of federates and their ledgers
abbrev pub OfTheCurrent : (ℕ → (ℕ → Ledger) → ℕ → Type 0) → Type 0
OfTheCurrent A = InEachWorld (λ m places. (done : ℕ) → IsCurrent (length places) (ledgers_of places) done → A (length places) (ledgers_of places) done)

-- two colours differ by one at most
abbrev pub ColoursDifferByOne : Type 0
ColoursDifferByOne = InEachWorld (λ m places. (i j : ℕ) → i < length places → j < length places → (ledgers_of places i).colour ≤ (ledgers_of places j).colour + 1)

-- a contribution counts the old copies that its federate had posted and received then, and nothing that this posts
-- later is old
abbrev pub ContributionsAreFaithful : Type 0
ContributionsAreFaithful = InEachWorld (λ m places. (j k : ℕ) → j < length places → HasContributed (ledgers_of places j) k → IsFaithful (ledgers_of places j) (at_round (ledgers_of places j) k))

-- the old copies posted are those counted as received, those that came after that, those that came to others, and
-- those on their way
abbrev pub OldCopiesAreBalanced : Type 0
OldCopiesAreBalanced = OfTheCurrent (λ n ledgers done. let run = run_of n ledgers done in
    all_posts (is_old_stamp run) n ledgers
    ≡ sum_by (λ j. counted_by (ledgers j) done) (everybody n) + sum_by (λ j. came_after run (ledgers j) done) (everybody n)
    + sum_by (λ j. came_to_others run (ledgers j) done) (everybody n) + all_on_way (is_old_stamp run) n ledgers)

-- the low of each round that ended a run bounds all copies on their way and all promises
abbrev pub EndedRunsBound : Type 0
EndedRunsBound = OfTheCurrent (λ n ledgers done. (k : ℕ) → k < done → EndsRun n ledgers k → IsBound n ledgers (result_of n ledgers k).low)

-- and is not below that of an earlier run
abbrev pub BoundsNeverFall : Type 0
BoundsNeverFall = OfTheCurrent (λ n ledgers done. (k l : ℕ) → k < l → l < done → EndsRun n ledgers k → EndsRun n ledgers l → (result_of n ledgers k).low ≤ (result_of n ledgers l).low)

-- the least of the end and 1, of the lows of those who contributed, of the times of the others' posts of the run's
-- colour, and of the times of the old copies that came after a contribution: no post of that colour is timed below
-- it, and nobody who contributed promises less
abbrev pub LeastHolds : Type 0
LeastHolds = InEachWorld (λ m places. (j : ℕ) (p : Place LbtsView) → get_elem? places j ≡ some p → (done : ℕ) → IsCurrent (length places) (ledgers_of places) done
    → let run = run_of (length places) (ledgers_of places) done in
    IsAbove (length places) run (ledgers_of places) done (least_number (p.client.federation.end + 1) (length places) run (ledgers_of places) done))

-- no copy has a greater colour than the run
abbrev pub NoneIsNewer : Type 0
NoneIsNewer = OfTheCurrent (λ n ledgers done. (j : ℕ) → j < n → All (λ (c : Copy). c.stamp.colour ≤ run_of n ledgers done) (ledgers j).posted)

-- ---- the words, the registers, and what is known

-- each count is the number of the federates in the buffer's three sets, which are disjoint: those to whom it is still to
-- be posted, those in whose mail it is marked, and those who hold it; the content words are those last written
abbrev pub CountsAreOfSets : Type 0
CountsAreOfSets = (p : Place LbtsView) (m : Memory) (places : List (Place LbtsView)) → World agreeing_rule p m places → Pool m (map stock_of places) (length places) p.own.buffers

-- each shows the round that it has to show, those that are never published nothing, and the clock the logical time
abbrev pub RegistersShow : Type 0
RegistersShow = InEachWorld (λ m places. (j : ℕ) (p : Place LbtsView) → get_elem? places j ≡ some p → Registers m (length places) (ledgers_of places) j p)

-- shares that were taken in, and results, are those of the round
abbrev pub LearntIsTrue : Type 0
LearntIsTrue = InEachWorld (λ m places. (j : ℕ) (p : Place LbtsView) → get_elem? places j ≡ some p → Learnt (length places) (ledgers_of places) j p)

-- the known bound is that of a run that ended, or 0
abbrev pub KnownBoundIsOfARun : Type 0
KnownBoundIsOfARun = InEachWorld (λ m places. (j : ℕ) (p : Place LbtsView) → get_elem? places j ≡ some p → (bound_of p.client ≡ 0)
    ⊎ ((k : ℕ) × ((i : ℕ) → i < length places → HasContributed (ledgers_of places i) k) × EndsRun (length places) (ledgers_of places) k × (bound_of p.client ≡ (result_of (length places) (ledgers_of places) k).low)))

-- so it bounds all copies on their way and all promises
abbrev pub KnownBoundBounds : Type 0
KnownBoundBounds = InEachWorld (λ m places. (j : ℕ) (p : Place LbtsView) → get_elem? places j ≡ some p → IsBound (length places) (ledgers_of places) (bound_of p.client))

-- and the last grant is below it
abbrev pub GrantsAreBelow : Type 0
GrantsAreBelow = OfEachFederate (λ m j p. IfSome (last_grant (entries_of p.client)) (λ t. t < bound_of p.client))

-- the clock of each is the time of its last grant, or 0
abbrev pub ClocksShow : Type 0
ClocksShow = OfEachFederate (λ m j p. m (Register (clock_of j)) ≡ time_of p.client)

-- journals are lawful: grants rise, and nothing comes that is timed at a grant or before it
abbrev pub JournalsAreLawful : Type 0
JournalsAreLawful = OfEachFederate (λ m j p. IsLawful (entries_of p.client))
