-- Laws of promises: what is sent is late enough, and no step of a federate breaks its promise.
use Rattle.std.specs.Prelude.{◌≡◌, ℕ, ◌+◌, ◌<◌, ◌≤◌, min, Bool, true, false, List, [], ◌∷◌, ◌++◌, length, Option, Some, None}
use Rattle.std.specs.List.{All}
use Rattle.kit_base.specs.declared.message.Message.{Message}
use Rattle.kit_rules.specs.declared.table.Trigger.{Trigger}
use Rattle.kit_rules.specs.declared.scene.State.{State}
use Rattle.kit_rules.specs.Parts.{Parts, effective_lookahead}
use Rattle.kit_rules.specs.Federation.{IsFederation}
use Rattle.kit_rules.specs.Step.{state_after}
use Rattle.kit_rules.specs.Delivery.{due_messages}
use Rattle.kit_rules.specs.Simulation.{Seat, Block, block, seat_at_start, seat_due}
use Rattle.kit_parts.specs.Fronts.{seat_with, seat_after, IsFront, Standing}
use Rattle.kit_parts.specs.Promises.{promise_after, promise, promise_time, GoesOn}
use Rattle.kit_parts.specs.Cuts.{HasAllBelow}

-- what is added to a federate's sends is timed t or later
pub record AddsFrom (t : ℕ) (old new : List Message) : Type 0 where
  pub made : List Message
  pub sends : new ≡ old ++ made
  pub late : All (λ (m : Message). t ≤ m.time) made

-- a rule step adds to the sends what is timed now and the effective lookahead or later, Retractions too
abbrev pub StepsSendLate : Type 0
StepsSendLate = (p : Parts) → IsFederation p → (i : ℕ) → i < length p.federates → (on : Trigger) (now value : ℕ) (s : State) → AddsFrom (now + effective_lookahead p i) s.sends (state_after p i on now value s).sends

-- so does the start, at time 0
abbrev pub StartsSendLate : Type 0
StartsSendLate = (p : Parts) → IsFederation p → (i : ℕ) → i < length p.federates → All (λ (m : Message). effective_lookahead p i ≤ m.time) (seat_at_start p i).state.sends

-- and a grant with its deliveries
abbrev pub GrantsSendLate : Type 0
GrantsSendLate = (p : Parts) → IsFederation p → (i : ℕ) → i < length p.federates → (b : Block) (s : Seat) → AddsFrom (b.time + effective_lookahead p i) s.state.sends (seat_with p i b s).state.sends

-- while sends wait, the promise is no later than they can be
abbrev pub WaitingKeepsPromise : Type 0
WaitingKeepsPromise = (p : Parts) → IsFederation p → (i : ℕ) → i < length p.federates → (received : List Message) (done : List Block) → promise_after p i true received (Some done) ≤ (seat_after p i done).now + effective_lookahead p i

-- the start keeps the promise
abbrev pub StartKeepsPromise : Type 0
StartKeepsPromise = (p : Parts) → IsFederation p → (i : ℕ) (before after : Bool) (received : List Message) → promise_after p i before received None ≤ promise_after p i after received (Some [])

-- and so does a grant at the due time
abbrev pub GrantKeepsPromise : Type 0
GrantKeepsPromise = (p : Parts) (i : ℕ) (after : Bool) (received : List Message) (done : List Block) → (seat_after p i done).now < p.end
    → promise_after p i false received (Some done) ≤ promise_after p i after received (Some (done ++ block i (seat_due p received i (seat_after p i done)) (due_messages p i (seat_due p received i (seat_after p i done)) (seat_after p i done).got received) ∷ []))

-- and the last post, after which no send waits, where the request is due no sooner than now
abbrev pub PostKeepsPromise : Type 0
PostKeepsPromise = (p : Parts) (i : ℕ) (received : List Message) (done : List Block) → (seat_after p i done).now ≤ seat_due p received i (seat_after p i done)
    → promise_after p i true received (Some done) ≤ promise_after p i false received (Some done)

-- as it is where all is heard below a bound that is later than now
abbrev pub DueIsAhead : Type 0
DueIsAhead = (p : Parts) → IsFederation p → (bound i : ℕ) → i < length p.federates → (received : List Message) → HasAllBelow p bound i received → (done : List Block) → IsFront p i done
    → (seat_after p i done).now < p.end → (seat_after p i done).now < bound → (seat_after p i done).now < seat_due p received i (seat_after p i done)

-- a receipt leaves at least the least of the promise, the message's time and 1, and the end and 1
abbrev pub ReceiptKeepsPromise : Type 0
ReceiptKeepsPromise = (p : Parts) → IsFederation p → (i : ℕ) → i < length p.federates → (waits : Bool) (received : List Message) (m : Message) (done : Option (List Block))
    → min (promise_after p i waits received done) (min (m.time + 1) (p.end + 1)) ≤ promise_after p i waits (received ++ m ∷ []) done

-- no promise goes past the end and 1, which is promised once the end is granted
abbrev pub PromisesAreCapped : Type 0
PromisesAreCapped = (p : Parts) (i : ℕ) (waits : Bool) (received : List Message) (done : Option (List Block)) → promise_after p i waits received done ≤ p.end + 1

-- the least of the times by which promises go is below every promise: so where nothing is in transit the federate
-- that has it can go on
abbrev pub LeastIsBelow : Type 0
LeastIsBelow = (p : Parts) → IsFederation p → (all : ℕ → Standing) (i : ℕ) → i < length p.federates → GoesOn p i (all i)
    → ((j : ℕ) → j < length p.federates → GoesOn p j (all j) → promise_time p i (all i) ≤ promise_time p j (all j))
    → (j : ℕ) → j < length p.federates → promise_time p i (all i) < promise p j (all j)
