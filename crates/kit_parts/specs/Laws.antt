-- Laws of a federate by itself.
use Rattle.std.specs.Prelude.{◌≡◌, ℕ, ◌<◌, true, false, List, [], ◌∷◌, ◌++◌, length, Contains, filter}
use Rattle.kit_base.specs.declared.message.Message.{Message}
use Rattle.kit_rules.specs.Parts.{Parts}
use Rattle.kit_rules.specs.Federation.{IsFederation}
use Rattle.kit_rules.specs.Delivery.{due_messages}
use Rattle.kit_rules.specs.Simulation.{Block, block, seat_due, simulation}
use Rattle.kit_parts.specs.Fronts.{seat_after, IsFront, is_transported_to, is_by, sent_by, Standing}
use Rattle.kit_parts.specs.Cuts.{HasAllBelow, Cut, AreSplit, AreSound, AreBounded, Carries}

-- at a cut, all messages of the simulation that are timed below the bound were sent
abbrev pub NobodySendsBelow : Type 0
NobodySendsBelow = (p : Parts) → IsFederation p → (bound : ℕ) (all : ℕ → Standing) → Cut p bound all
    → (m : Message) → Contains (simulation p).messages m → m.time < bound → (m.sender < length p.federates) × Contains (sent_by p m.sender (all m.sender)) m

-- so what each federate received below the bound is all there will be
abbrev pub AllIsHeard : Type 0
AllIsHeard = (p : Parts) → IsFederation p → (bound : ℕ) (all : ℕ → Standing) → Cut p bound all → (i : ℕ) → i < length p.federates → HasAllBelow p bound i (all i).received

-- and a grant that is due below the bound is the simulation's next block of the federate
abbrev pub GrantsAgree : Type 0
GrantsAgree = (p : Parts) → IsFederation p → (bound i : ℕ) → i < length p.federates → (received : List Message) → HasAllBelow p bound i received
    → (done : List Block) → IsFront p i done → (seat_after p i done).now < p.end → seat_due p received i (seat_after p i done) < bound
    → IsFront p i (done ++ block i (seat_due p received i (seat_after p i done)) (due_messages p i (seat_due p received i (seat_after p i done)) (seat_after p i done).got received) ∷ [])

-- a moment at which a number is a bound is a cut
abbrev pub BoundsAreCuts : Type 0
BoundsAreCuts = (p : Parts) → IsFederation p → (bound : ℕ) (all : ℕ → Standing) (transit waiting : ℕ → ℕ → List Message) → AreBounded p bound all transit waiting → Cut p bound all

-- where the lists say it, in the order of sending, j's messages to i are split
abbrev pub ListsAreSplit : Type 0
ListsAreSplit = (p : Parts) (all : ℕ → Standing) (transit waiting : ℕ → ℕ → List Message) (j i : ℕ)
    → filter (is_transported_to p i) (sent_by p j (all j)) ≡ filter (is_by j) (all i).received ++ transit j i ++ waiting j i → AreSplit p all transit waiting j i

-- a bound stays a bound from one moment to the next
abbrev pub BoundsCarry : Type 0
BoundsCarry = (p : Parts) (bound : ℕ) (all next : ℕ → Standing) (transit then_transit waiting then_waiting : ℕ → ℕ → List Message) → AreBounded p bound all transit waiting
    → AreSound p next then_transit then_waiting → Carries p all transit waiting next then_transit → AreBounded p bound next then_transit then_waiting

-- what is in transit was sent, is for its receiver, and shares its sender and number with nothing that was received
pub record IsNew (p : Parts) (all : ℕ → Standing) (j i : ℕ) (m : Message) : Type 0 where
  pub sender : m.sender ≡ j
  pub sent : Contains (sent_by p j (all j)) m
  pub here : is_transported_to p i m ≡ true
  pub new : (x : Message) → Contains (all i).received x → x.sender ≡ m.sender → x.number ≡ m.number → ⊥

abbrev pub WhatComesIsNew : Type 0
WhatComesIsNew = (p : Parts) → IsFederation p → (all : ℕ → Standing) (transit waiting : ℕ → ℕ → List Message) → AreSound p all transit waiting
    → (j i : ℕ) → j < length p.federates → i < length p.federates → (m : Message) → Contains (transit j i) m → IsNew p all j i m

-- and so it is with what waits
abbrev pub WhatWaitsIsNew : Type 0
WhatWaitsIsNew = (p : Parts) → IsFederation p → (all : ℕ → Standing) (transit waiting : ℕ → ℕ → List Message) → AreSound p all transit waiting
    → (j i : ℕ) → j < length p.federates → i < length p.federates → (m : Message) → Contains (waiting j i) m → IsNew p all j i m

-- a federate receives nothing from itself
abbrev pub NobodySendsToItself : Type 0
NobodySendsToItself = (p : Parts) (i : ℕ) (m : Message) → m.sender ≡ i → is_transported_to p i m ≡ false
