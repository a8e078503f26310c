-- Laws of a federate's own blocks: their times, their end, and what is outstanding after them.
use Rattle.std.specs.Prelude.{◌≡◌, ◌≢◌, ℕ, ◌<◌, ◌≤◌, true, List, [], ◌∷◌, ◌++◌, length, count_by, AllPairs, Contains, slice_index_or, ◌+◌, ◌*◌}
use Rattle.std.specs.List.{All, flat_map}
use Rattle.kit_base.specs.declared.message.Message.{Message}
use Rattle.kit_rules.specs.Parts.{Parts}
use Rattle.kit_rules.specs.Federation.{IsFederation}
use Rattle.kit_rules.specs.Need.{is_outstanding, need_of}
use Rattle.kit_rules.specs.Simulation.{Block, after_deliveries, after_grants, seat_at, simulation, world_at_start}
use Rattle.kit_parts.specs.Fronts.{is_transported_to, seat_after, part, blocks_of, IsFront}
use Rattle.kit_parts.specs.Cuts.{HasAllBelow}

-- the grants of a federate rise strictly, from 1 to the end
abbrev pub PartsRise : Type 0
PartsRise = (p : Parts) → IsFederation p → (i : ℕ) → AllPairs (λ (a b : Block). a.time < b.time) (part p i) × All (λ (b : Block). (b.federate ≡ i) × (1 ≤ b.time) × (b.time ≤ p.end)) (part p i)

-- the last of them is the end
abbrev pub PartsEnd : Type 0
PartsEnd = (p : Parts) → IsFederation p → (i : ℕ) → i < length p.federates → (seat_after p i (part p i)).now ≡ p.end

-- and a federate that was granted the end has made its whole part
abbrev pub EndsAreWhole : Type 0
EndsAreWhole = (p : Parts) → IsFederation p → (i : ℕ) → i < length p.federates → (done : List Block) → IsFront p i done → p.end ≤ (seat_after p i done).now → done ≡ part p i

-- where all is heard below a bound, nothing more comes that is timed below it
abbrev pub NothingComesLate : Type 0
NothingComesLate = (p : Parts) → (bound i : ℕ) (received : List Message) → HasAllBelow p bound i received → (m : Message) → Contains (simulation p).messages m → is_transported_to p i m ≡ true → (Contains received m → ⊥) → bound ≤ m.time

-- what a federate has outstanding after any of its blocks is not more than its need
abbrev pub NeedCovers : Type 0
NeedCovers = (p : Parts) → IsFederation p → (i : ℕ) → i < length p.federates → (done : List Block) → IsFront p i done
    → count_by (is_outstanding p i (seat_after p i done).now) (seat_after p i done).state.sends ≤ need_of p i

-- so a pool whose buffers hold so many outstanding messages, no two the same, is not larger than the need
abbrev pub NeedHolds : Type 0
NeedHolds = (p : Parts) → IsFederation p → (i : ℕ) → i < length p.federates → (done : List Block) → IsFront p i done
    → (held : List Message) → AllPairs (λ a b. a ≢ b) held → All (λ (m : Message). Contains (seat_after p i done).state.sends m × (is_outstanding p i (seat_after p i done).now m ≡ true)) held → length held ≤ need_of p i

-- federate i takes number 16,385 in the simulation
abbrev pub Spends : Parts → ℕ → Type 0
Spends p i = (m : Message) × Contains (simulation p).messages m × (m.sender ≡ i) × (m.number ≡ 16385)

-- it does where it takes it in its start or in one of its blocks
abbrev pub SpentAgrees : Type 0
SpentAgrees = (p : Parts) → IsFederation p → (i : ℕ) → i < length p.federates → (done : List Block) → IsFront p i done → 16385 < (seat_after p i done).state.next → Spends p i

-- or among the deliveries of its next block
abbrev pub SpentAmong : Type 0
SpentAmong = (p : Parts) → IsFederation p → (i : ℕ) → i < length p.federates → (done : List Block) (b : Block) → IsFront p i (done ++ b ∷ [])
    → (first rest : List Message) → b.delivered ≡ first ++ rest → 16385 < (after_deliveries p i b.time (seat_after p i done).state first).next → Spends p i

-- what a federate has sent after any blocks is numbered from 1 on, and the next number follows
abbrev pub SendsAreNumbered : Type 0
SendsAreNumbered = (p : Parts) → IsFederation p → (i : ℕ) → i < length p.federates → (done : List Block)
    → ((seat_after p i done).state.next ≡ length (seat_after p i done).state.sends + 1)
    × ((k : ℕ) (d : Message) → k < length (seat_after p i done).state.sends → ((slice_index_or (seat_after p i done).state.sends k d).sender ≡ i) × ((slice_index_or (seat_after p i done).state.sends k d).number ≡ k + 1))

-- and more blocks only add to it
abbrev pub SendsGrow : Type 0
SendsGrow = (p : Parts) (i : ℕ) (first rest : List Block) → (more : List Message) × ((seat_after p i (first ++ rest)).state.sends ≡ (seat_after p i first).state.sends ++ more)

-- what was delivered to a federate is what its blocks deliver
abbrev pub GotIsDelivered : Type 0
GotIsDelivered = (p : Parts) (i : ℕ) (done : List Block) → (seat_after p i done).got ≡ flat_map (λ (b : Block). b.delivered) done

-- what its whole part leads to is what the simulation leaves at a federate
abbrev pub WholePartsAreSeats : Type 0
WholePartsAreSeats = (p : Parts) → IsFederation p → (i : ℕ) → i < length p.federates → seat_at (simulation p) i ≡ seat_after p i (part p i)

-- after so many of the simulation's grants, the federate's are these blocks, and it stands where they lead to
pub record IsReached (p : Parts) (i : ℕ) (done : List Block) : Type 0 where
  pub grants : ℕ
  pub within : grants ≤ length p.federates * p.end
  pub blocks : blocks_of i (after_grants p grants (world_at_start p)).blocks ≡ done
  pub seat : seat_at (after_grants p grants (world_at_start p)) i ≡ seat_after p i done

-- so it is with the first blocks of the part
abbrev pub FrontsAreReached : Type 0
FrontsAreReached = (p : Parts) → IsFederation p → (i : ℕ) → i < length p.federates → (done : List Block) → IsFront p i done → IsReached p i done

-- and what a federate has sent after them is of the simulation
abbrev pub FrontsSend : Type 0
FrontsSend = (p : Parts) → IsFederation p → (i : ℕ) → i < length p.federates → (done : List Block) → IsFront p i done
    → (m : Message) → Contains (seat_after p i done).state.sends m → Contains (simulation p).messages m × (m.sender ≡ i)
