-- What is pending by what a federate received, in the order of delivery: how it changes, and what a grant delivers.
use Rattle.std.specs.Prelude.{length, ◌≡◌, ◌≢◌, ℕ, ◌<◌, ◌≤◌, ◌==◌, ◌&&◌, nat_lt, nat_le, true, false, not, if◌then◌else◌, List, [], ◌∷◌, ◌++◌, filter, AllPairs, Contains, min}
use Rattle.std.specs.List.{All, list_any}
use Rattle.kit_base.specs.declared.message.Message.{Message}
use Rattle.kit_base.specs.Order.{is_before, put, in_order}
use Rattle.kit_rules.specs.declared.table.Request.{Request}
use Rattle.kit_rules.specs.declared.table.Request.TheVariants.{Tar, Ner}
use Rattle.kit_rules.specs.Parts.{Parts}
use Rattle.kit_rules.specs.Federation.{IsFederation}
use Rattle.kit_rules.specs.Step.{is_event}
use Rattle.kit_rules.specs.Delivery.{is_pending, pending_messages, is_transported, has_bit, receivers_of, retracts, due_time, due_messages}
use Rattle.kit_rules.specs.Simulation.{Block, simulation, Seat, seat_due, block}
use Rattle.kit_parts.specs.Fronts.{is_transported_to, seat_after, IsFront}
use Rattle.kit_parts.specs.Cuts.{HasAllBelow}

-- the pending Events of federate i, in the order of delivery
abbrev pub queue_of : Parts → ℕ → List Message → List Message → List Message
queue_of p i got received = in_order (pending_messages p i got received)

-- an Event that is received is put in its place, where it is pending
abbrev pub QueueTakesEvent : Type 0
QueueTakesEvent = (p : Parts) (i : ℕ) (got received : List Message) (m : Message) → is_event m.kind ≡ true
    → queue_of p i got (received ++ m ∷ []) ≡ (if is_pending p i got received m then put m (queue_of p i got received) else queue_of p i got received)

-- a Retraction takes out what it names: its sender's message of that number
abbrev pub QueueTakesRetraction : Type 0
QueueTakesRetraction = (p : Parts) (i : ℕ) (got received : List Message) (r : Message) → is_event r.kind ≡ false
    → queue_of p i got (received ++ r ∷ []) ≡ filter (λ m. not ((m.sender == r.sender) && (m.number == r.value))) (queue_of p i got received)

-- a grant of d delivers those timed d or less
abbrev pub QueueDelivers : Type 0
QueueDelivers = (p : Parts) (i d : ℕ) (got received : List Message) → due_messages p i d got received ≡ filter (λ m. nat_le m.time d) (queue_of p i got received)

-- and leaves the others
abbrev pub QueueKeeps : Type 0
QueueKeeps = (p : Parts) (i d : ℕ) (got received : List Message) → queue_of p i (got ++ due_messages p i d got received) received ≡ filter (λ m. nat_lt d m.time) (queue_of p i got received)

-- what stands in the queue was received
abbrev pub QueueIsReceived : Type 0
QueueIsReceived = (p : Parts) (i : ℕ) (got received : List Message) (m : Message) → Contains (queue_of p i got received) m → Contains received m × (is_pending p i got received m ≡ true)

-- two messages of the simulation of one sender and number are one
abbrev pub MessagesAreOne : Type 0
MessagesAreOne = (p : Parts) → IsFederation p → (a b : Message) → Contains (simulation p).messages a → Contains (simulation p).messages b → a.sender ≡ b.sender → a.number ≡ b.number → a ≡ b

-- a Retraction has the time and the group of what it takes back
abbrev pub RetractionsAreLike : Type 0
RetractionsAreLike = (p : Parts) → IsFederation p → (m r : Message) → Contains (simulation p).messages m → Contains (simulation p).messages r → retracts m r ≡ true → (r.time ≡ m.time) × (r.group ≡ m.group)

-- and what it names is an Event of the simulation, of a lower number
abbrev pub RetractionsName : Type 0
RetractionsName = (p : Parts) → IsFederation p → (r : Message) → Contains (simulation p).messages r → is_event r.kind ≡ false
    → (m : Message) × Contains (simulation p).messages m × (is_event m.kind ≡ true) × (m.sender ≡ r.sender) × (m.number ≡ r.value) × (m.number < r.number) × (m.time ≡ r.time) × (m.group ≡ r.group)

-- the queue stands in the order of time, so a grant of d delivers a front of it and leaves the rest
abbrev pub QueueSplits : Type 0
QueueSplits = (p : Parts) (i d : ℕ) (got received : List Message) → queue_of p i got received ≡ filter (λ m. nat_le m.time d) (queue_of p i got received) ++ filter (λ m. nat_lt d m.time) (queue_of p i got received)

-- and strictly in the order of keys, where what was received is of the simulation and nothing twice
abbrev pub QueueIsOrdered : Type 0
QueueIsOrdered = (p : Parts) → IsFederation p → (i : ℕ) (got received : List Message) → All (Contains (simulation p).messages) received → AllPairs (λ a b. a ≢ b) received → AllPairs (λ a b. is_before a b ≡ true) (queue_of p i got received)

-- what a grant delivers was received, is timed its time or less, and was pending
abbrev pub DueIsReceived : Type 0
DueIsReceived = (p : Parts) (i d : ℕ) (got received : List Message) (m : Message) → Contains (due_messages p i d got received) m → Contains received m × (m.time ≤ d) × (is_pending p i got received m ≡ true)

-- copies for federate i are the transported messages of which it is a receiver
abbrev pub CopiesAreTransported : Type 0
CopiesAreTransported = (p : Parts) (i : ℕ) (sends : List Message) → filter (is_transported_to p i) sends ≡ filter (λ m. has_bit (receivers_of p m.sender m.group) i) (filter (is_transported p) sends)

-- no two Retractions of one sender name the same
abbrev pub RetractedOnce : Type 0
RetractedOnce = (p : Parts) → IsFederation p → (a b : Message) → Contains (simulation p).messages a → Contains (simulation p).messages b → is_event a.kind ≡ false → is_event b.kind ≡ false
    → a.sender ≡ b.sender → a.value ≡ b.value → a ≡ b

-- where all is heard below a bound, what stands in the queue and is timed below it is never taken back
abbrev pub SettledIsSafe : Type 0
SettledIsSafe = (p : Parts) → IsFederation p → (bound i : ℕ) (got received : List Message) → HasAllBelow p bound i received → (m : Message) → Contains (queue_of p i got received) m → m.time < bound
    → (r : Message) → Contains (simulation p).messages r → retracts m r ≡ true → ⊥

-- and where that bound is later than now, all that stands in the queue is timed later than now
abbrev pub QueueIsAhead : Type 0
QueueIsAhead = (p : Parts) → IsFederation p → (bound i : ℕ) → i < length p.federates → (received : List Message) → HasAllBelow p bound i received → (done : List Block) → IsFront p i done → (seat_after p i done).now < bound
    → (m : Message) → Contains (queue_of p i (seat_after p i done).got received) m → (seat_after p i done).now < m.time

-- the time of the first of these, but no later than t
abbrev pub first_by : ℕ → List Message → ℕ
first_by t [] = t
first_by t (m ∷ ms) = min t m.time

-- a Next Event Request is due by the first in the queue
abbrev pub DueByFirst : Type 0
DueByFirst = (p : Parts) (i t : ℕ) (got received : List Message) → due_time (Ner t) (pending_messages p i got received) ≡ first_by t (queue_of p i got received)

-- when a request is due by the queue
abbrev pub due_by_queue : Request → List Message → ℕ
due_by_queue (Tar t) queue = t
due_by_queue (Ner t) queue = first_by t queue

-- the due time of a federate is that by its queue
abbrev pub DueByQueue : Type 0
DueByQueue = (p : Parts) (i : ℕ) (received : List Message) (s : Seat) → seat_due p received i s ≡ due_by_queue s.request (queue_of p i s.got received)

-- so a grant that is due below what is heard, with what stands first in the queue, is the simulation's next block
abbrev pub GrantsAgreeByQueue : Type 0
GrantsAgreeByQueue = (p : Parts) → IsFederation p → (bound i : ℕ) → i < length p.federates → (received : List Message) → HasAllBelow p bound i received → (done : List Block) → IsFront p i done
    → let s = seat_after p i done in let queue = queue_of p i s.got received in let d = due_by_queue s.request queue in
    s.now < p.end → d < bound → IsFront p i (done ++ block i d (filter (λ m. nat_le m.time d) queue) ∷ [])

-- an Event for federate i that shares its sender and number with nothing that was delivered is pending, unless it was taken back
abbrev pub NewIsPending : Type 0
NewIsPending = (p : Parts) (i : ℕ) (got received : List Message) (m : Message) → is_event m.kind ≡ true → is_transported_to p i m ≡ true → ((x : Message) → Contains got x → x.sender ≡ m.sender → x.number ≡ m.number → ⊥)
    → is_pending p i got received m ≡ not (list_any (retracts m) received)
