-- Moments of a run of all federates: a bound on what is still to come.
use Rattle.std.specs.Prelude.{◌≡◌, ◌≢◌, ◌⊎◌, ℕ, min, ◌+◌, ◌<◌, ◌≤◌, Bool, true, List, length, filter, count_by, AllPairs, Contains}
use Rattle.std.specs.List.{All}
use Rattle.kit_base.specs.declared.message.Message.{Message}
use Rattle.kit_rules.specs.Parts.{Parts}
use Rattle.kit_rules.specs.Simulation.{simulation}
use Rattle.kit_parts.specs.Fronts.{AreFront, is_transported_to, is_by, sent_by, Standing}
use Rattle.kit_parts.specs.Promises.{promise}

-- what federate i received is of the simulation and for it, nothing twice, and nothing below the bound is missing
pub record HasAllBelow (p : Parts) (bound i : ℕ) (received : List Message) : Type 0 where
  pub sent : (m : Message) → Contains received m → Contains (simulation p).messages m × (is_transported_to p i m ≡ true)
  pub once : AllPairs (λ a b. a ≢ b) received
  pub came : (m : Message) → Contains (simulation p).messages m → is_transported_to p i m ≡ true → m.time < bound → Contains received m

-- what was received was sent, nothing twice, all that was sent and is timed below the bound was received,
-- and each federate promises the bound or more
pub record Cut (p : Parts) (bound : ℕ) (all : ℕ → Standing) : Type 0 where
  pub fronts : (i : ℕ) → i < length p.federates → AreFront p i (all i)
  pub sent : (i : ℕ) → i < length p.federates → (m : Message) → Contains (all i).received m → (m.sender < length p.federates) × Contains (sent_by p m.sender (all m.sender)) m × (is_transported_to p i m ≡ true)
  pub once : (i : ℕ) → i < length p.federates → AllPairs (λ a b. a ≢ b) (all i).received
  pub came : (i j : ℕ) → i < length p.federates → j < length p.federates → (m : Message) → Contains (sent_by p j (all j)) m → is_transported_to p i m ≡ true → m.time < bound → Contains (all i).received m
  pub promised : (i : ℕ) → i < length p.federates → bound ≤ promise p i (all i)

-- what j sent to i is what i received of it, what is in transit and what waits, in any order: each test tells
pub record AreSplit (p : Parts) (all : ℕ → Standing) (transit waiting : ℕ → ℕ → List Message) (j i : ℕ) : Type 0 where
  pub counts : (test : Message → Bool) → count_by test (filter (is_transported_to p i) (sent_by p j (all j)))
      ≡ count_by test (filter (is_by j) (all i).received) + count_by test (transit j i) + count_by test (waiting j i)

-- a moment of a run: each federate is at a front, each message received is of a federate that is there, what was
-- sent is split, and what waits is timed its sender's promise or later
pub record AreSound (p : Parts) (all : ℕ → Standing) (transit waiting : ℕ → ℕ → List Message) : Type 0 where
  pub fronts : (i : ℕ) → i < length p.federates → AreFront p i (all i)
  pub senders : (i : ℕ) → i < length p.federates → All (λ (m : Message). m.sender < length p.federates) (all i).received
  pub split : (j i : ℕ) → j < length p.federates → i < length p.federates → AreSplit p all transit waiting j i
  pub waiting_late : (j i : ℕ) → j < length p.federates → i < length p.federates → All (λ (m : Message). promise p j (all j) ≤ m.time) (waiting j i)

-- and a number is a bound then: what is in transit is timed that or later, and each promise is that or more
pub record AreBounded (p : Parts) (bound : ℕ) (all : ℕ → Standing) (transit waiting : ℕ → ℕ → List Message) : Type 0 where
  pub sound : AreSound p all transit waiting
  pub transit_late : (j i : ℕ) → j < length p.federates → i < length p.federates → All (λ (m : Message). bound ≤ m.time) (transit j i)
  pub promised : (i : ℕ) → i < length p.federates → bound ≤ promise p i (all i)

-- a promise that holds from one moment to the next: it falls only by a receipt, and then to no less than the message's
-- time and 1, or the end and 1
abbrev pub PromiseHolds : Parts → ℕ → Standing → Standing → (ℕ → List Message) → Type 0
PromiseHolds p i old new transit = (promise p i old ≤ promise p i new)
    ⊎ ((j : ℕ) × (m : Message) × (j < length p.federates) × Contains (transit j) m × (min (promise p i old) (min (m.time + 1) (p.end + 1)) ≤ promise p i new))

-- from one moment to the next: what comes into transit waited before, and promises hold
pub record Carries (p : Parts) (all : ℕ → Standing) (transit waiting : ℕ → ℕ → List Message) (next : ℕ → Standing) (then_transit : ℕ → ℕ → List Message) : Type 0 where
  pub posted : (j i : ℕ) → j < length p.federates → i < length p.federates → (m : Message) → Contains (then_transit j i) m → Contains (transit j i) m ⊎ Contains (waiting j i) m
  pub promised : (i : ℕ) → i < length p.federates → PromiseHolds p i (all i) (next i) (λ j. transit j i)
